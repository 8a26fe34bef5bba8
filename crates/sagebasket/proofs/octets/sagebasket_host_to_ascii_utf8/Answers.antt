-- `sagebasket_host_to_ascii_utf8` meets its contract: 16 where the octets do not decode, else what is told of the code points read.
-- Assumes nothing.
use mathlib.Core.Path.{refl}
use Rattle.rules.specs.Editions.{today}
use Rattle.sagebasket.specs.Outside.{OfUtf8}
use Rattle.sagebasket.proofs.Alike.{host_alike}
use Rattle.sagebasket.proofs.Reading.{read_said}
use Rattle.sagebasket.proofs.octets.sagebasket_host_to_ascii_utf8.Goals as goal

pub returns-in-Some : goal.returns-in-Some
returns-in-Some c = OfUtf8.read c.in-Some.ensures.0 (read_said _ (host_alike today _ _ _ _) c.args.name.now _ c.in-Some.ensures c.tell_host.ensures)

pub returns-in-None : goal.returns-in-None
returns-in-None c = OfUtf8.left c.in-None.ensures c.tell_not_utf8.ensures.0 c.tell_not_utf8.ensures.1 refl
