use Rattle.std.proofs.Common.{◌≡◌, ◌∙◌, ap, List, [], ℕ, length}
use Rattle.bpf_link.specs.Undefined.{undefined_below, undefined_in}
use Rattle.bpf_link.specs.declared.layout.RelocationEntry.{RelocationEntry}
use Rattle.bpf_link.specs.declared.plan.Plan.{Plan}
use Rattle.bpf_link.proofs.undefined.undefined_in.Goals as goal

-- those of both parts
both : (plan : Plan) (one two first second : List RelocationEntry) (start code all : List ℕ) → one ≡ first → two ≡ second → start ≡ []
    → code ≡ undefined_below plan one start (length one) → all ≡ undefined_below plan two code (length two)
    → all ≡ undefined_below plan second (undefined_below plan first [] (length first)) (length second)
both plan one two first second start code all same again empty found more =
    more ∙ (ap (λ c. undefined_below plan two c (length two)) found
    ∙ (ap (λ s. undefined_below plan two (undefined_below plan one s (length one)) (length two)) empty
    ∙ (ap (λ r. undefined_below plan two (undefined_below plan r [] (length r)) (length two)) same
    ∙ ap (λ r. undefined_below plan r (undefined_below plan first [] (length first)) (length r)) again)))

pub returns : goal.returns
returns c =
    let plan = c.args.plan.now in
    both plan _ _ plan.parts.code.relocations plan.parts.text.relocations _ _ _ (ap (λ part. part.relocations) c.part.ensures.value)
    (ap (λ part. part.relocations) c.part-2.ensures.value) c.new.ensures c.with_all-code.ensures c.with_all.ensures
