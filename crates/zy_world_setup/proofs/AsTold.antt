-- What a liar's order or response is made of is what is told.
use Rattle.std.proofs.Common.{◌≡◌, ℕ, List, Option, Some, None, refl, ap, ◌∙◌, subst}
use Rattle.std.specs.Prelude.{option_map}
use Rattle.zy_base.specs.declared.ids.View.{View}
use Rattle.zy_table.specs.declared.deeds.AnyFrame.{AnyFrame}
use Rattle.zy_frames.specs.declared.frame.Frame.TheVariants as frames
use Rattle.zy_parts.specs.Numbers as numbers
use Rattle.zy_parts.specs.Statements.{order_fields, spec_fields}
use Rattle.zy_parts.specs.declared.signed.Signed.{Signed}
use Rattle.zy_parts.specs.declared.statements.Ask.{Ask}
use Rattle.zy_parts.specs.declared.statements.Order.{Order}
use Rattle.zy_parts.specs.declared.statements.Spec.{Spec}
use Rattle.zy_seal.specs.Sealing.{SealerState, sealed_by}
use Rattle.zy_world_setup.specs.Telling.{IsEncoded, IsToldBy}
use Rattle.zy_table.specs.declared.deeds.AnyFrame.TheVariants as any
use Rattle.zy_world_law.specs.Liars.{Telling, last_of, order_of, order_told, spec_of, spec_told}

module _ (view : View) (asks : List (Signed Ask)) (sealer : SealerState) (last : Signed Ask) (is_last : last_of asks ≡ Some last) where
  abbrev ordering : Signed Ask → Telling
  ordering ask = λ by. any.Plain (frames.Order (record { order = sealed_by numbers.order order_fields by (order_of view asks ask); ask = ask }))

  pub order_as_told : (order : Order) (signed : Signed Order) (ask : Signed Ask) (bytes : List ℕ) → order ≡ order_of view asks last
      → signed ≡ sealed_by numbers.order order_fields sealer order → ask ≡ last → IsEncoded (any.Plain (frames.Order (record { order = signed; ask = ask }))) (Some bytes) → IsToldBy (order_told view asks) sealer (Some bytes)
  order_as_told order signed ask bytes is_order is_signed is_copy is =
      let frame : any.Plain (frames.Order (record { order = signed; ask = ask })) ≡ ordering last sealer = rw (is_signed, is_order, is_copy) refl in
      (ordering last, ap (λ (o : Option (Signed Ask)). option_map ordering o) is_last, subst (λ (f : AnyFrame). IsEncoded f (Some bytes)) frame is)

  module _ (reply : List ℕ) where
    abbrev responding : Signed Ask → Telling
    responding ask = λ by. any.Plain (frames.SpecResponse (sealed_by numbers.spec spec_fields by (spec_of view reply asks ask)) reply None)

    pub spec_as_told : (spec : Spec) (signed : Signed Spec) (bytes : List ℕ) → spec ≡ spec_of view reply asks last
        → signed ≡ sealed_by numbers.spec spec_fields sealer spec → IsEncoded (any.Plain (frames.SpecResponse signed reply None)) (Some bytes) → IsToldBy (spec_told view reply asks) sealer (Some bytes)
    spec_as_told spec signed bytes is_spec is_signed is =
        let frame : any.Plain (frames.SpecResponse signed reply None) ≡ responding last sealer = rw (is_signed, is_spec) refl in
        (responding last, ap (λ (o : Option (Signed Ask)). option_map responding o) is_last, subst (λ (f : AnyFrame). IsEncoded f (Some bytes)) frame is)
