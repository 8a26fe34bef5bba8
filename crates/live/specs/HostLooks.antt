-- The live check at the rules of a host: document 02, K10. The state and its steps are those of specs/Live; a look at
-- it shows what is said of the text so far as a nameserver's host name. Hosts stay with the edition in force (K12):
-- that of the state is not asked.
use Rattle.std.specs.Prelude.{◌≡◌, replicate}
use Rattle.rules.specs.Permits.{Permits}
use Rattle.hosts.specs.Hosts.{host_judged}
use Rattle.refusals.specs.Refusals.{Filled}
use Rattle.hosts.specs.Hosts.{HostJudged}
use Rattle.live.specs.Live.{looked_by}
use Rattle.live.specs.declared.Live.{Live}

-- past 256 it shows 3 at place 256 and an empty text
unfoldable pub host_too_long : HostJudged
host_too_long = record { number = 3; place = 256; form = replicate 256 0; length = 0 }

unfoldable pub host_looked : Permits → Live → HostJudged
host_looked P l = looked_by (host_judged P) host_too_long l

-- a look, and what the nightly call for the ASCII form says: the same number and place
pub record HostAgrees (j : HostJudged) (r : Filled) : Type 0 where
  pub number : j.number ≡ r.number
  pub place : j.place ≡ r.place
