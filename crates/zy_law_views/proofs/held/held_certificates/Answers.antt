use Rattle.zy_cert.proofs.CertificateLemmas.{certified-taken}
use Rattle.zy_cert.specs.Equal.{same_began, same_check, same_spec, began-equal, check-equal, spec-equal}
use Rattle.zy_cert.specs.Points.{point_of_began, point_of_check, point_of_spec}
use Rattle.zy_law.specs.World.{Statement}
use Rattle.zy_law_views.specs.Held.{mark_at}
use Rattle.zy_law_views.specs.Told.{check_told}
use Rattle.zy_law_views.proofs.Backing.{cert_backed}
use Rattle.zy_law_views.proofs.ProvenReports.{began_cert, check_cert, spec_certified, some_local}
use Rattle.zy_law_views.proofs.held.held_certificates.Goals as goal

pub returns : goal.returns
returns c =
    record {
      responses = λ w list view place head proves held. spec_certified w list (view, place, head) (certified-taken same_spec spec-equal point_of_spec w.counts.cert list (view, place, head) proves) held;
      confirmations = λ w list view place head proves held.
          began_cert w w.counts.cert list (view, place, head) (certified-taken same_began began-equal point_of_began w.counts.cert list (view, place, head) proves) held;
      checkpoints = λ w list view place head state proves states held.
          check_cert w w.counts.local list (view, place, head) state (some_local w) (certified-taken same_check check-equal point_of_check w.counts.local list (view, place, head) proves) states held;
      backed = λ w count view place head state list is. cert_backed w check_told count (Statement.Check view.0 (mark_at place head) state) list is;
    }
