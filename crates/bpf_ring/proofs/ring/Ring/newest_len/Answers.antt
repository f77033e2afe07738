use Rattle.std.proofs.Common.{◌-◌, ◌∙◌, length, ap, arith}
use Rattle.std.proofs.lemmas.List.{length-drop}
use Rattle.bpf_ring.proofs.Arounds.{last_two}
use Rattle.bpf_ring.proofs.ring.Ring.newest_len.Goals as goal

pub number-requires : goal.number-requires
number-requires c =
    let bytes = c.args.self.now.bytes in
    let rest = length-drop (length bytes - 2) bytes in
    omega (arith, ap length c.in-Some.ensures, rest, c.requires)

pub returns-in-Some : goal.returns-in-Some
returns-in-Some c = λ n before small is. c.number.ensures n small (c.in-Some.ensures ∙ last_two c.args.self.now.bytes before n is)
