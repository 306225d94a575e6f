-- Where no range has a fault the run is told.
use Rattle.std.proofs.Common.{sym, ap, ◌∙◌, refl}
use Rattle.secrets_top.specs.Ranges.{first_faulty}
use Rattle.secrets_top.proofs.Outcomes.{accepted_end}
use Rattle.secrets_top.proofs.performing.perform.Goals as goal

pub returns-in-Err : goal.returns-in-Err
returns-in-Err g c = (ap (λ image. first_faulty image 0 c.args.secret.now) (sym c.image.ensures) ∙ c.in-Err.ensures, refl)

pub returns : goal.returns
returns g c = accepted_end _ _ _ _ _ (ap (λ image. first_faulty image 0 c.args.secret.now) (sym c.image.ensures) ∙ c.in-Ok.ensures) c.tell.ensures
