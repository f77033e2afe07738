use Rattle.std.proofs.Common.{List, [], ℕ, get_or, length, ap, sym, arith, ◌∙◌, ◌≡◌, refl}
use Rattle.bpfdb_script.proofs.Telling.{Telling-start, Telling-step, Telling-end}
use Rattle.bpf_cover.specs.Coverage.{Covered}
use Rattle.bpf_cover.proofs.Marks.{lines-next, lines-end}
use Rattle.bpf_cover.proofs.coverage.Coverage.put.Goals as goal

pub loop-slot-init : goal.loop-slot-init
loop-slot-init g c =
    let here : c.as_slice-marks.result.now ≡ c.args.self.now.marks = c.as_slice-marks.ensures.value ∙ ap (λ (d : Covered). d.marks) c.self.view_is in
    let told = rw here at c.put_counts-told.ensures in
    Telling-step _ _ _ _ _ _ _ _ _ _ _ (Telling-start g.W.Write.contents _ _ _) told refl

pub loop-slot-preserved : goal.loop-slot-preserved
loop-slot-preserved g c =
    let here : c.as_slice-marks.result.now ≡ c.args.self.now.marks = c.as_slice-marks.ensures.value ∙ ap (λ (d : Covered). d.marks) c.self.view_is in
    let many : length c.args.self.now.marks ≡ length c.args.self.now.texts =
    sym (ap (λ (d : Covered). length d.marks) c.self.view_is) ∙ c.self.invariant ∙ ap (λ (d : Covered). length d.texts) c.self.view_is in
    let long = ap length here in
    let test = c.loop-slot-test.true in
    let end = c.loop-slot.auto.slot-end in
    let texts = ap (λ (d : Covered). d.texts) c.self.view_is in
    let text : c.at.result.now ≡ get_or c.args.self.now.texts c.loop-slot.slot [] = c.at.ensures ∙ ap (λ (ts : List (List ℕ)). get_or ts c.loop-slot.slot []) texts in
    let told = rw (text, here) at c.put_miss-told.ensures in
    Telling-step _ _ _ _ _ _ _ _ _ _ _ c.loop-slot.invariant told
    (lines-next c.args.self.now.texts c.args.self.now.marks c.loop-slot.slot _ (omega (arith, test, many, long)) (omega (arith, test, long)))

pub returns : goal.returns
returns g c =
    let here : c.as_slice-marks.result.now ≡ c.args.self.now.marks = c.as_slice-marks.ensures.value ∙ ap (λ (d : Covered). d.marks) c.self.view_is in
    let long = ap length here in
    let test = c.loop-slot-test.false in
    Telling-end _ _ _ _ _ _ _ c.loop-slot.invariant (lines-end c.args.self.now.texts c.args.self.now.marks c.loop-slot.slot (omega (arith, test, long)))
