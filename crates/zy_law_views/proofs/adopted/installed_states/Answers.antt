use Rattle.std.proofs.Common.{ℕ, fold, length, sym, ap, ◌∙◌}
use Rattle.std.proofs.lemmas.Option.{same_Some}
use Rattle.zy_base.specs.declared.ids.Digest.{Digest}
use Rattle.zy_chain.specs.Heads.{empty_head}
use Rattle.zy_chain.specs.declared.entry.Entry.{Entry}
use Rattle.zy_evidence.specs.Reading.{stretch_of}
use Rattle.zy_law_views.specs.Texts.{list_in}
use Rattle.zy_law_views.proofs.AdoptedLists.{base_passed, chosen_known, installed_front, installed_list, list_adopted}
use Rattle.zy_law_views.proofs.ReadLists.{list_read}
use Rattle.zy_law_views.proofs.adopted.installed_states.Goals as goal

pub returns : goal.returns
returns g c =
    let R = g.M.Machine.rules in
    record {
      base = λ interval texts w n m c bytes k lawful matches world is some kept installed.
          let known = chosen_known w lawful matches.next interval n m c is in (
            _,
            list_adopted w lawful matches.next interval n m c is R texts matches world known.moment (stretch_of c.stmt.told).base k
                (base_passed w lawful matches.next interval n m c is known.moment known.passes)
                (installed_front w lawful matches.next interval n m c is R texts matches world bytes k some kept installed known.moment known.passes),
          );
      adopted = λ interval texts w n m c bytes k lawful matches world is some kept installed.
          let known = chosen_known w lawful matches.next interval n m c is in (
            _,
            list_adopted w lawful matches.next interval n m c is R texts matches world known.moment m _ known.passes
                (installed_list w lawful matches.next interval n m c is R texts matches world bytes k some kept installed known.moment known.passes),
          );
      one = λ interval texts w m j k g h a b. same_Some g h (sym a.read ∙ b.read);
      read = λ interval texts w m list matches world is.
          ap (λ (n : ℕ). list_in texts n m.head) (sym is.long)
          ∙ ap (list_in texts (length list)) (sym is.head ∙ ap (λ (next : Digest → Entry → Digest). fold next empty_head list) matches.next)
          ∙ list_read texts w world.links matches.next list is.texts;
    }
