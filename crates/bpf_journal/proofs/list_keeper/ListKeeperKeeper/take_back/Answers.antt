use Rattle.std.proofs.Common.{◌∙◌, refl, ap, sym, subst, arith}
use Rattle.bpf_entries.specs.declared.entry.Entry.{Entry}
use Rattle.bpf_entries.specs.Fields.{FitsFields}
use Rattle.bpf_entries.specs.Texts.{text}
use Rattle.bpf_journal.specs.Histories.{newest, older}
use Rattle.bpf_journal.specs.contracts.list_keeper.ListKeeperKeeper.TheImpl as impl
use Rattle.bpf_journal.proofs.Histories.{newest_came, goes_back, stays_there}
use Rattle.bpf_journal.proofs.Items.{lighter}
use Rattle.bpf_journal.proofs.list_keeper.ListKeeperKeeper.take_back.Goals as goal

pub revert_text-requires : goal.revert_text-requires
revert_text-requires c =
    let i = c.requires.way in
    let item = c.in-Some.item in
    record {
      entry = item.0;
      mark = item.1;
      come = newest_came i.history _ item (ap newest (i.stands.0 ∙ c.in-Some.ensures)) i.stands.1;
      fits = c.text.ensures.fits;
      held = c.text.ensures.text;
    }

pub returns-in-Some-clause-back : goal.returns-in-Some-clause-back
returns-in-Some-clause-back c = λ h stands.
    let item = c.in-Some.item in
    let held = stands.0 ∙ c.in-Some.ensures in
    goes_back impl.ghosts.holds h _ _ _ item _ (ap newest held) (c.of_tag.ensures item.0 item.1 c.tag.ensures) stands.1 (ap older held)
    (λ x m leads is. c.revert_text.ensures x m item.1 leads (subst FitsFields (sym is) c.text.ensures.fits) (c.text.ensures.text ∙ ap (λ (e : Entry). text e item.1) (sym is)))

pub returns-in-None-clause-back : goal.returns-in-None-clause-back
returns-in-None-clause-back c = λ h stands.
    let held = stands.0 ∙ c.in-None.ensures.0 in
    stays_there impl.ghosts.holds h _ _ _ (ap newest held) refl (ap older held ∙ sym c.in-None.ensures.1)

pub invariant_of-self-clause-within : goal.invariant_of-self-clause-within
invariant_of-self-clause-within c = omega (arith, lighter _ _ _ c.pop.ensures, c.args.self.now.within)
