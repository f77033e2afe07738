use Rattle.std.proofs.Common.{◌≡◌, ◌∙◌, Bool, ap₂, refl, sym}
use Rattle.std.specs.Prelude.{◌&&◌}
use Rattle.counted_io.proofs.Appending.{WritesAfter-WritesAfter, WritesAfter-text}
use Rattle.bpf_entries.specs.Status.{has_ended}
use Rattle.bpf_steps.specs.State.{State}
use Rattle.bpf_trace.proofs.Stepping.{Steps-program}
use Rattle.bpf_diff.specs.Differences.{are_same}
use Rattle.bpf_diff.specs.Ends.{same_end}
use Rattle.bpf_diff.proofs.Comparing.{end-first, ends-whole, parting-whole, same-whole}
use Rattle.bpf_diff.proofs.diff.put_diff.Goals as goal

pub returns-clause-text : goal.returns-clause-text
returns-clause-text g c =
    let limit = c.args.limit in
    let n = c.put_begun-begun.result.steps in
    let m = c.go_together-more.result in
    let x = c.args.first.now in
    let y = c.args.second.now in
    let a = c.put_begun-begun.new.first in
    let b = c.put_begun-begun.new.second in
    let p = c.go_together-more.new.first in
    let q = c.go_together-more.new.second in
    let v = c.put_parting-parting.new.first in
    let w = c.put_parting-parting.new.second in
    let begun = c.put_begun-begun.ensures in
    let more = c.go_together-more.ensures in
    let parted = c.put_parting-parting.ensures in
    let ends = parted.ends in
    let same : c.is_same-same.result ≡ are_same limit x y =
    c.is_same-same.ensures
    ∙ same-whole limit n m ends.0 ends.1 x y a b p q v w begun.along more ends.2 ends.3 _ _ (same_end v w) begun.alike parted.none refl in
    let told = WritesAfter-text g.W.Write.contents _ _ _ _ _ _ parted.text (sym (parting-whole limit n m ends.0 ends.1 x y a b p q v w begun.along more ends.2 ends.3 c.args.texts)) in
    let ended = WritesAfter-text g.W.Write.contents _ _ _ _ _ _ c.put_ends-written.ensures
    (ends-whole limit n m ends.0 ends.1 x y a b p q v w begun.along more ends.2 ends.3 c.is_same-same.result same) in
    let two = WritesAfter-WritesAfter g.W.Write.contents _ _ _ _ _ _ _ _ _ begun.text told refl in
    WritesAfter-WritesAfter g.W.Write.contents _ _ _ _ _ _ _ _ _ two ended refl

pub returns-clause-finds : goal.returns-clause-finds
returns-clause-finds g c =
    let limit = c.args.limit in
    let n = c.put_begun-begun.result.steps in
    let m = c.go_together-more.result in
    let x = c.args.first.now in
    let y = c.args.second.now in
    let a = c.put_begun-begun.new.first in
    let b = c.put_begun-begun.new.second in
    let p = c.go_together-more.new.first in
    let q = c.go_together-more.new.second in
    let v = c.put_parting-parting.new.first in
    let w = c.put_parting-parting.new.second in
    let begun = c.put_begun-begun.ensures in
    let more = c.go_together-more.ensures in
    let parted = c.put_parting-parting.ensures in
    let ends = parted.ends in
    let same : c.is_same-same.result ≡ are_same limit x y =
    c.is_same-same.ensures
    ∙ same-whole limit n m ends.0 ends.1 x y a b p q v w begun.along more ends.2 ends.3 _ _ (same_end v w) begun.alike parted.none refl in
    record {
      same = c.is_over.ensures
          ∙ ap₂ (λ (s : Bool) (z : State). s && has_ended z.status) same (end-first limit n m ends.0 ends.1 x y a b p q v w begun.along more ends.2 ends.3);
      values = begun.values;
    }

pub returns-clause-programs : goal.returns-clause-programs
returns-clause-programs g c =
    let begun = c.put_begun-begun.ensures in
    let more = c.go_together-more.ensures in
    let ends = c.put_parting-parting.ensures.ends in (
      Steps-program _ _ _ ends.2.steps ∙ Steps-program _ _ _ more.along.first ∙ Steps-program _ _ _ begun.along.first,
      Steps-program _ _ _ ends.3.steps ∙ Steps-program _ _ _ more.along.second ∙ Steps-program _ _ _ begun.along.second,
    )
