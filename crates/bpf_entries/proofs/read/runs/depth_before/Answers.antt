use Rattle.std.proofs.Common.{◌∙◌, [], sym, ap, arith}
use Rattle.std.proofs.lemmas.List.{append-nil}
use Rattle.std.proofs.lemmas.Bool.Decides.{nat_tests}
use Rattle.bpf_entries.specs.Texts.{text}
use Rattle.bpf_entries.proofs.read.runs.depth_before.Goals as goal
use Rattle.bpf_entries.proofs.Runs.{depth_by_kind, depth_told}

pub returns-in-3 : goal.returns-in-3
returns-in-3 c = λ e mark h.
    let is = sym c.in-3.is ∙ c.kind_of.ensures e mark [] (h ∙ sym (append-nil (text e mark))) in
    c.saturating_sub.ensures ∙ ap (depth_by_kind c.args.depth) is ∙ sym (depth_told e c.args.depth)

pub returns-in-4 : goal.returns-in-4
returns-in-4 c = λ e mark h.
    let is = sym c.in-4.is ∙ c.kind_of.ensures e mark [] (h ∙ sym (append-nil (text e mark))) in
    ap (depth_by_kind c.args.depth) is ∙ sym (depth_told e c.args.depth)

pub returns-in_default : goal.returns-in_default
returns-in_default c = λ e mark h.
    let is = c.kind_of.ensures e mark [] (h ∙ sym (append-nil (text e mark))) in
    let told = depth_told e c.args.depth in
    grind (arith, nat_tests, is, told, c.in_default)
