use Rattle.std.proofs.Common.{◌≡◌, ◌∙◌, ℕ, [], sym, ap, arith, inl, inr}
use Rattle.std.proofs.lemmas.List.{append-nil}
use Rattle.bpf_entries.specs.Texts.{kind, text}
use Rattle.bpf_ring.specs.declared.touched.Touched.TheVariants as touched
use Rattle.bpf_ring.proofs.Touching.{edit_named, fetch_named, register_named, told_alone, told_by, told_none}
use Rattle.bpf_ring.proofs.touched.Touched.in_text.Goals as goal

pub returns-in-1 : goal.returns-in-1
returns-in-1 c = λ e mark fits h.
    let is : kind e ≡ 1 = sym (c.kind_of.ensures e mark [] (h ∙ sym (append-nil (text e mark)))) ∙ c.in-1.is in
    let there = register_named e mark c.args.text.now h is in
    ap (λ (n : ℕ). touched.Register n) (c.number_at.ensures there.0 ∙ there.1) ∙ told_alone e c.args.depth 1 is

pub returns-in-3 : goal.returns-in-3
returns-in-3 c = λ e mark fits h.
    let is : kind e ≡ 3 = sym (c.kind_of.ensures e mark [] (h ∙ sym (append-nil (text e mark)))) ∙ c.in-3.is in
    told_by e c.args.depth 3 c.span_in-address.result is (c.span_in-address.ensures e mark fits h)

pub returns-in-5 : goal.returns-in-5
returns-in-5 c = λ e mark fits h.
    let is = sym (c.kind_of.ensures e mark [] (h ∙ sym (append-nil (text e mark)))) in
    let span = c.span_in-address-in-5.ensures e mark fits h in
    elim c.in-5.is [
      | inl five ↦ told_by e c.args.depth 5 c.span_in-address-in-5.result (is ∙ five) span
      | inr eleven ↦ told_by e c.args.depth 11 c.span_in-address-in-5.result (is ∙ eleven) span
    ]

pub returns-in-6 : goal.returns-in-6
returns-in-6 c = λ e mark fits h.
    let is : kind e ≡ 6 = sym (c.kind_of.ensures e mark [] (h ∙ sym (append-nil (text e mark)))) ∙ c.in-6.is in
    let there = fetch_named e mark c.args.text.now h is in
    let s = c.span_in-address-in-6.result in
    ap (λ (n : ℕ). touched.Both n s.0 s.1) (c.number_at-in-6.ensures there.0 ∙ there.1)
    ∙ told_by e c.args.depth 6 s is (c.span_in-address-in-6.ensures e mark fits h)

pub returns-in-7 : goal.returns-in-7
returns-in-7 c = λ e mark fits h.
    let is : kind e ≡ 7 = sym (c.kind_of.ensures e mark [] (h ∙ sym (append-nil (text e mark)))) ∙ c.in-7.is in
    told_by e c.args.depth 7 c.span_in-address-in-7.result is (c.span_in-address-in-7.ensures e mark fits h)

pub returns-in-8 : goal.returns-in-8
returns-in-8 c = λ e mark fits h.
    let is : kind e ≡ 8 = sym (c.kind_of.ensures e mark [] (h ∙ sym (append-nil (text e mark)))) ∙ c.in-8.is in
    told_alone e c.args.depth 8 is

pub returns-in-10 : goal.returns-in-10
returns-in-10 c = λ e mark fits h.
    let is : kind e ≡ 10 = sym (c.kind_of.ensures e mark [] (h ∙ sym (append-nil (text e mark)))) ∙ c.in-10.is in
    let there = edit_named e mark c.args.text.now h is in
    ap (λ (n : ℕ). touched.Register n) (c.number_at-in-10.ensures there.0 ∙ there.1) ∙ told_alone e c.args.depth 10 is

pub returns-in_default : goal.returns-in_default
returns-in_default c = λ e mark fits h.
    let is = c.kind_of.ensures e mark [] (h ∙ sym (append-nil (text e mark))) in
    sym (told_none e c.args.depth (λ k. omega (arith, is, k, c.in_default)) (λ k. omega (arith, is, k, c.in_default)) (λ k. grind (arith, is, k, c.in_default)) (λ k. omega (arith, is, k, c.in_default))
    (λ k. omega (arith, is, k, c.in_default)) (λ k. omega (arith, is, k, c.in_default)) (λ k. omega (arith, is, k, c.in_default)) (λ k. grind (arith, is, k, c.in_default)))
