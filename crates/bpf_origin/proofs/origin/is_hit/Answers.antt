use Rattle.std.proofs.Common.{◌≡◌, ◌-◌, ◌∷◌, ◌∙◌, [], length, sym, ap}
use Rattle.bpf_steps.specs.State.{depth}
use Rattle.bpf_origin.specs.declared.place.Part.{Part}
use Rattle.bpf_origin.specs.declared.place.Part.TheVariants as part
use Rattle.bpf_origin.specs.Places.{depth_for}
use Rattle.bpf_origin.specs.Wanted.{are_hit}
use Rattle.bpf_origin.proofs.Passing.{first_hits, hit_as, none_hit, second_tells}
use Rattle.bpf_origin.proofs.origin.is_hit.Goals as goal

pub returns-in-Nothing : goal.returns-in-Nothing
returns-in-Nothing c = hit_as _ _ _ _ c.args.wanted.now _ c.in-Nothing.is (sym (none_hit c.args.wanted.now))

pub returns-then-is_wanted : goal.returns-then-is_wanted
returns-then-is_wanted c =
    let ws = c.args.wanted.now in
    let p = part.Register (depth_for (depth c.args.cpu.now) c.in-Both.number) c.in-Both.number in
    let one : c.is_wanted-in-Both.result ≡ are_hit (p ∷ []) ws = c.is_wanted-in-Both.ensures ∙ ap (λ (a : Part). are_hit (a ∷ []) ws) (rw c.depth-in-Both.ensures at c.numbered_part-in-Both.ensures) in
    hit_as _ _ _ _ ws _ c.in-Both.is (first_hits p (part.Bytes c.in-Both.address c.in-Both.len) ws _ one c.if-is_wanted.true)

pub returns-else-is_wanted : goal.returns-else-is_wanted
returns-else-is_wanted c =
    let ws = c.args.wanted.now in
    let p = part.Register (depth_for (depth c.args.cpu.now) c.in-Both.number) c.in-Both.number in
    let one : c.is_wanted-in-Both.result ≡ are_hit (p ∷ []) ws = c.is_wanted-in-Both.ensures ∙ ap (λ (a : Part). are_hit (a ∷ []) ws) (rw c.depth-in-Both.ensures at c.numbered_part-in-Both.ensures) in
    hit_as _ _ _ _ ws _ c.in-Both.is (second_tells p (part.Bytes c.in-Both.address c.in-Both.len) ws _ _ one c.if-is_wanted.false c.is_wanted-else-is_wanted.ensures)

pub returns-then-is_wanted-2 : goal.returns-then-is_wanted-2
returns-then-is_wanted-2 c =
    let ws = c.args.wanted.now in
    let p = part.Register (depth_for (depth c.args.cpu.now) 0) 0 in
    let one : c.is_wanted-in-Word.result ≡ are_hit (p ∷ []) ws = c.is_wanted-in-Word.ensures ∙ ap (λ (a : Part). are_hit (a ∷ []) ws) c.numbered_part-in-Word.ensures in
    hit_as _ _ _ _ ws _ c.in-Word.is (first_hits p (part.Word (length c.args.cpu.now.trace - 1)) ws _ one c.if-is_wanted-2.true)

pub returns-else-is_wanted-2 : goal.returns-else-is_wanted-2
returns-else-is_wanted-2 c =
    let ws = c.args.wanted.now in
    let p = part.Register (depth_for (depth c.args.cpu.now) 0) 0 in
    let one : c.is_wanted-in-Word.result ≡ are_hit (p ∷ []) ws = c.is_wanted-in-Word.ensures ∙ ap (λ (a : Part). are_hit (a ∷ []) ws) c.numbered_part-in-Word.ensures in
    hit_as _ _ _ _ ws _ c.in-Word.is (second_tells p (part.Word (length c.args.cpu.now.trace - 1)) ws _ _ one c.if-is_wanted-2.false (c.is_wanted-else-is_wanted-2.ensures ∙ ap (λ (a : Part). are_hit (a ∷ []) ws) (rw c.trace.ensures.value at c.word_part.ensures)))
