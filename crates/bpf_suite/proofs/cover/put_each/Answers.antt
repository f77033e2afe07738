use Rattle.std.proofs.Common.{◌≡◌, ◌++◌, ◌+◌, [], ◌∷◌, List, take, sym, ap, refl, ◌∙◌}
use Rattle.std.proofs.lemmas.List.{take_more}
use Rattle.bpfdb_script.proofs.Telling.{WritesAfter-nothing}
use Rattle.counted_io.proofs.Appending.{WritesAfter-WritesAfter}
use Rattle.bpf_suite.specs.declared.section.Section.{Section}
use Rattle.bpf_suite.proofs.Covering.{each-next}
use Rattle.bpf_suite.proofs.cover.put_each.Goals as goal

pub loop-sections-init : goal.loop-sections-init
loop-sections-init g c = record {
  shared = refl;
  covers = ([], refl, WritesAfter-nothing g.W.Write.contents c.args.writer.now c.args.so_far);
}

pub loop-sections-preserved : goal.loop-sections-preserved
loop-sections-preserved g c =
    let i = c.loop-sections.sections-index in
    let shared = c.args.bench.now.sections in
    let all = c.args.own.now in
    let own = c.sections-item.result in
    let more : take (i + 1) all ≡ take i all ++ own ∷ [] =
    take_more all i own c.loop-sections-test.true ∙ ap (λ (o : List Section). take i all ++ o ∷ []) (sym c.sections-item.is) in
    let next = rw c.loop-sections.invariant.shared at c.in-Ok.ensures.text in
    let done = c.loop-sections.invariant.covers in
    record {
      shared = c.put_next.ensures.sections ∙ c.loop-sections.invariant.shared;
      covers = (
        done.0 ++ next.0,
        rw more (each-next c.args.form.now shared own (take i all) done.0 next.0 done.1 next.1),
        WritesAfter-WritesAfter g.W.Write.contents _ _ _ _ _ _ _ _ _ done.2 next.2 refl,
      );
    }
