pub mod Beginning
pub mod Middle
