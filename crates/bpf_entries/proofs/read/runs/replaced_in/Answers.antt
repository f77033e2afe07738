use Rattle.std.proofs.Common.{◌∙◌, [], sym, arith}
use Rattle.std.proofs.lemmas.List.{append-nil}
use Rattle.bpf_entries.specs.Texts.{text}
use Rattle.bpf_entries.proofs.read.runs.replaced_in.Goals as goal
use Rattle.bpf_entries.proofs.Runs.{fits_back, no_run, run_back}

pub returns-in-3 : goal.returns-in-3
returns-in-3 c = λ e mark fits h.
    let is = sym c.in-3.is ∙ c.kind_of.ensures e mark [] (h ∙ sym (append-nil (text e mark))) in
    let back = run_back e mark 3 c.args.depth c.args.bytes.now fits h is in
    let whole = fits_back e mark 3 c.args.bytes.now fits h is in
    c.frame_run.ensures (omega (arith, back.0, whole.1.0)) ∙ back.1

pub returns-in-5 : goal.returns-in-5
returns-in-5 c = λ e mark fits h.
    let back = run_back e mark 5 c.args.depth c.args.bytes.now fits h (sym c.in-5.is ∙ c.kind_of.ensures e mark [] (h ∙ sym (append-nil (text e mark)))) in
    c.counted_run.ensures (omega (arith, back.0)) ∙ back.1

pub returns-in-6 : goal.returns-in-6
returns-in-6 c = λ e mark fits h.
    let back = run_back e mark 6 c.args.depth c.args.bytes.now fits h (sym c.in-6.is ∙ c.kind_of.ensures e mark [] (h ∙ sym (append-nil (text e mark)))) in
    c.counted_run-in-6.ensures (omega (arith, back.0)) ∙ back.1

pub returns-in-7 : goal.returns-in-7
returns-in-7 c = λ e mark fits h.
    let back = run_back e mark 7 c.args.depth c.args.bytes.now fits h (sym c.in-7.is ∙ c.kind_of.ensures e mark [] (h ∙ sym (append-nil (text e mark)))) in
    c.rest_run.ensures (omega (arith, back.0)) ∙ back.1

pub returns-in-11 : goal.returns-in-11
returns-in-11 c = λ e mark fits h.
    let back = run_back e mark 11 c.args.depth c.args.bytes.now fits h (sym c.in-11.is ∙ c.kind_of.ensures e mark [] (h ∙ sym (append-nil (text e mark)))) in
    c.rest_run-in-11.ensures (omega (arith, back.0)) ∙ back.1

pub returns-in_default : goal.returns-in_default
returns-in_default c = λ e mark fits h.
    let is = c.kind_of.ensures e mark [] (h ∙ sym (append-nil (text e mark))) in
    sym (no_run e c.args.depth (λ k. omega (arith, is, k, c.in_default)) (λ k. omega (arith, is, k, c.in_default)) (λ k. omega (arith, is, k, c.in_default)) (λ k. omega (arith, is, k, c.in_default)) (λ k. omega (arith, is, k, c.in_default)))
