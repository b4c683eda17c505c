-- The test by which two orders are judged.
use Rattle.std.specs.Bool.{Decides}
use Rattle.std.proofs.lemmas.Bool.Decides.{Decides-like, Decides-and, Decides-not}
use Rattle.zy_parts.specs.declared.signed.Signed.{Signed}
use Rattle.zy_parts.specs.declared.statements.Order.{Order}
use Rattle.zy_cert.specs.Equal.{view-equal, place-equal, order-equal}
use Rattle.zy_cert.specs.Misbehaviour.{IsConflict, conflict}
use Rattle.zy_cert.proofs.SignerLemmas.{party-equal}

pub conflict-told : (a b : Signed Order) → Decides (conflict a b) (IsConflict a b)
conflict-told a b =
    Decides-like _ (λ h. record { view = h.0; place = h.1.0; signer = h.1.1.0; orders = h.1.1.1 }) (λ h. (h.view, (h.place, (h.signer, h.orders))))
    (Decides-and _ _ (view-equal a.stmt.view b.stmt.view) (Decides-and _ _ (place-equal a.stmt.place b.stmt.place) (Decides-and _ _ (party-equal a.by b.by) (Decides-not _ (order-equal a.stmt b.stmt)))))
