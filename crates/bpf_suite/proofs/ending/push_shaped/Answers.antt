use Rattle.std.proofs.Common.{ℕ, ◌≡◌, ◌*◌, ◌++◌, List, refl, sym, ap, ◌∙◌, arith}
use Rattle.bpf_steps.specs.Regions.{map_len}
use Rattle.bpf_suite.proofs.Endings.{never-absent, shape-some, whole-read}
use Rattle.bpf_suite.proofs.ending.push_shaped.Goals as goal

pub peek-requires : goal.peek-requires
peek-requires c =
    let some = shape-some c.args.cpu.now.program.maps c.args.map c.args.shape.now c.invariant.ensures.checked.tables.shapes c.requires.1 in
    let long : c.from.result * c.from-2.result ≡ map_len c.args.shape.now =
    ap (λ m. m * c.from-2.result) c.from.ensures ∙ ap (λ n. c.args.shape.now.value_size * n) c.from-2.ensures in
    omega (arith, some, long)

pub returns-in-Ok : goal.returns-in-Ok
returns-in-Ok c = λ before is.
    let some = shape-some c.args.cpu.now.program.maps c.args.map c.args.shape.now c.invariant.ensures.checked.tables.shapes c.requires.1 in
    let long : c.from.result * c.from-2.result ≡ map_len c.args.shape.now =
    ap (λ m. m * c.from-2.result) c.from.ensures ∙ ap (λ n. c.args.shape.now.value_size * n) c.from-2.ensures in
    c.in-Ok.ensures.items
    ∙ ap (λ (s : List ℕ). c.args.bytes.now.items ++ s)
    (whole-read c.args.cpu.now c.args.map _ _ before c.args.shape.now c.invariant.ensures c.requires.1 is long (omega (arith, some, long)) refl c.in-Some.run'.now c.in-Some.ensures.value)

pub returns-in-None : goal.returns-in-None
returns-in-None c = λ before is.
    let some = shape-some c.args.cpu.now.program.maps c.args.map c.args.shape.now c.invariant.ensures.checked.tables.shapes c.requires.1 in
    let long : c.from.result * c.from-2.result ≡ map_len c.args.shape.now =
    ap (λ m. m * c.from-2.result) c.from.ensures ∙ ap (λ n. c.args.shape.now.value_size * n) c.from-2.ensures in
    absurd (never-absent c.args.cpu.now c.args.map _ _ before c.args.shape.now c.invariant.ensures c.requires.1 is long (omega (arith, some, long)) refl (sym c.in-None.ensures.value))
