-- What a correct party says in an event is said then, and passes what all that was said passes.
use Rattle.std.proofs.Common.{◌≡◌, ℕ, ◌++◌, List, [], ◌∷◌, map, Some, refl, sym, ap, ◌∙◌, subst}
use Rattle.std.specs.Prelude.{option_map}
use Rattle.zy_base.specs.Machine.{Rules}
use Rattle.zy_base.specs.declared.ids.ClientId.{ClientId}
use Rattle.zy_base.specs.declared.ids.Party.{Party}
use Rattle.zy_base.specs.declared.ids.Party.TheVariants as parties
use Rattle.zy_base.specs.declared.ids.ReplicaId.{ReplicaId}
use Rattle.zy_base.specs.declared.step.Event.{Event}
use Rattle.zy_base.specs.declared.step.Spoken.{Spoken}
use Rattle.zy_law.specs.World.{Stand}
use Rattle.zy_law_steps.specs.Signs.{ArePassed}
use Rattle.zy_table.specs.ClientRows.{ask}
use Rattle.zy_table.specs.ClientState.{spoken_of}
use Rattle.zy_table.specs.Deeds.{Outcome, outgoing_of, said_from}
use Rattle.zy_table.specs.Whole.{whole_step}
use Rattle.zy_world_law.specs.Events.{client_stepped, remark_after, stepped, with_client, with_replica}
use Rattle.zy_world_law.specs.Faithful.{PassesSaid}
use Rattle.zy_world_law.specs.Good.{IsGood, IsTied}
use Rattle.zy_world_law.specs.World.{World, Client, Remark, Replica, Texts, client_at, replica_at, texts_said, with_sent}
use Rattle.zy_world_law.proofs.KeptOrHeard.{ask_comes}
use Rattle.zy_world_law.proofs.PassLaws.{Test}
use Rattle.zy_world_law.proofs.ToldSteps.{map_append}
use Rattle.zy_world_law.proofs.WorldSaid.{SaysMore, all_among, all_passed, own_client, own_replica, replica_says_more}

remark_texts : (past : List Stand) (said : List Spoken) → map (λ (remark : Remark). remark.text) (map (remark_after past) said) ≡ map (λ (spoken : Spoken). spoken.text) said
remark_texts past [] = refl
remark_texts past (spoken ∷ said) = ap (λ (l : List (List ℕ)). spoken.text ∷ l) (remark_texts past said)

module _ {S : Type 0} (R : Rules S) (w : World S) (good : IsGood R w) where
  -- ---- a replica that makes a step, after which these texts are kept

  module _ (id : ReplicaId) (x : Replica S) (at : replica_at w id.0 ≡ Some x) (event : Event) (same : (whole_step R x.state event).state.me ≡ x.state.me) (more : Texts) where
    abbrev o : Outcome S
    o = whole_step R x.state event

    tie : IsTied R w id.0 x
    tie = good.tied id.0 x at

    -- it is itself, and signs so
    me_is : o.state.me.0 ≡ id.0
    me_is = ap (λ (m : ReplicaId). m.0) same ∙ tie.works.me

    signer : x.state.sealer.me ≡ parties.Replica o.state.me
    signer = tie.ready.signer ∙ ap (λ (n : ℕ). parties.Replica (record { 0 = n })) (tie.ready.tied.standing.me ∙ sym me_is)

    abbrev w1 : World S
    w1 = record w { texts = more }

    abbrev x' : Replica S
    x' = stepped more event x o

    abbrev v : World S
    v = with_sent (with_replica w1 id x') (outgoing_of o.state.me.0 o.state.counts.n o.deeds.sent)

    abbrev said : List Spoken
    said = said_from (parties.Replica o.state.me) 0 o.deeds.acts

    pub replica_more : SaysMore w v
    replica_more = replica_says_more w1 id x at x' (map (remark_after x.past) said) refl

    own_texts : texts_said v (parties.Replica o.state.me) ≡ Some (map (λ (remark : Remark). remark.text) x.said ++ map (λ (spoken : Spoken). spoken.text) said)
    own_texts =
        ap (option_map (λ (y : Replica S). map (λ (remark : Remark). remark.text) y.said)) (ap (replica_at v) me_is ∙ own_replica w1 id x at x')
        ∙ ap (λ (l : List (List ℕ)). Some l)
        (map_append (λ (remark : Remark). remark.text) x.said (map (remark_after x.past) said) ∙ ap (λ (l : List (List ℕ)). map (λ (remark : Remark). remark.text) x.said ++ l) (remark_texts x.past said))

    pub replica_passes : (test : Test) → PassesSaid v test → ArePassed test x.state.sealer.me (said_from x.state.sealer.me 0 o.deeds.acts)
    replica_passes test passes =
        subst (λ (by : Party). ArePassed test by (said_from by 0 o.deeds.acts)) (sym signer)
        (all_passed v test (parties.Replica o.state.me) _ passes own_texts said (all_among (λ (spoken : Spoken). spoken.text) (map (λ (remark : Remark). remark.text) x.said) said))

  -- ---- a client that asks

  module _ (id : ClientId) (x : Client) (at : client_at w id.0 ≡ Some x) (op : List ℕ) where
    client_is : x.state.me ≡ id
    client_is = let number = (good.client_tied id.0 x at).me in ap (λ (n : ℕ). record { 0 = n }) number

    abbrev asked : World S
    asked = with_client w id (client_stepped x (ask x.state op))

    as_before : (ask x.state op).state.me ≡ x.state.me
    as_before = (ask_comes x.state op).same.me

    pub asked_passes : (test : Test) → PassesSaid asked test → ArePassed test (parties.Client x.state.me) (map (spoken_of x.state.me) (ask x.state op).said)
    asked_passes test passes =
        let told : List Spoken = map (spoken_of (ask x.state op).state.me) (ask x.state op).said in
        let texts : texts_said asked (parties.Client x.state.me) ≡ Some (x.said ++ map (λ (spoken : Spoken). spoken.text) told) =
        ap (option_map (λ (y : Client). y.said)) (ap (λ (m : ClientId). client_at asked m.0) client_is ∙ own_client w id x at (client_stepped x (ask x.state op))) in
        subst (λ (m : ClientId). ArePassed test (parties.Client x.state.me) (map (spoken_of m) (ask x.state op).said)) as_before
        (all_passed asked test (parties.Client x.state.me) (x.said ++ map (λ (spoken : Spoken). spoken.text) told) passes texts told (all_among (λ (spoken : Spoken). spoken.text) x.said told))
