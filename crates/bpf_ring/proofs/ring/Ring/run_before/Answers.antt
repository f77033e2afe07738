use Rattle.std.proofs.Common.{◌≡◌, ◌≤◌, ◌+◌, ◌-◌, ◌∙◌, ℕ, List, length, take, drop, sym, ap, arith}
use Rattle.std.proofs.lemmas.List.{drop-take, drop_all, length-drop, length-take}
use Rattle.bpf_ring.proofs.ring.Ring.run_before.Goals as goal

-- So many bytes in front of an index.
run_at : (bytes : List ℕ) (to count : ℕ) → count ≤ to → to ≤ length bytes → take count (drop (to - count) bytes) ≡ drop (to - length (take count (drop (to - count) bytes))) (take to bytes)
run_at bytes to count low high =
    let long : length (take count (drop (to - count) bytes)) ≡ count = length-take count (drop (to - count) bytes) ∙ omega (arith, length-drop (to - count) bytes, low, high) in
    let sum : to ≡ to - count + count = omega (arith, low) in
    sym (ap (λ (m : ℕ). drop (to - m) (take to bytes)) long ∙ ap (λ (m : ℕ). drop (to - count) (take m bytes)) sum ∙ drop-take (to - count) count bytes)

pub returns-in-Some-clause-run : goal.returns-in-Some-clause-run
returns-in-Some-clause-run c =
    let to = c.args.to in
    let bytes = c.args.self.now.bytes in
    let count = c.min-count.result in
    let is = c.in-Some.ensures in
    is ∙ run_at bytes to count (omega (arith, c.min-count.ensures)) c.requires ∙ ap (λ (l : List ℕ). drop (to - length l) (take to bytes)) (sym is)

pub returns-in-None-clause-run : goal.returns-in-None-clause-run
returns-in-None-clause-run c = sym (drop_all (c.args.to - 0) (take c.args.to c.args.self.now.bytes) (omega (arith, length-take c.args.to c.args.self.now.bytes)))
