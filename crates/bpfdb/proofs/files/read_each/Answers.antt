use Rattle.std.proofs.Common.{◌≡◌, ◌<◌, ◌+◌, ◌∙◌, ℕ, List, [], ◌∷◌, ◌++◌, Some, add-one, ap, length, subst, sym}
use Rattle.std.proofs.lemmas.List.{get_or-map, map-append}
use Rattle.std.specs.Borrow.{Bor}
use Rattle.std.specs.Prelude.{Option, Vec, get_or}
use Rattle.std.specs.declared.alloc.Global.{Global}
use Rattle.bpfdb_files.specs.Reading.{Gives}
use Rattle.bpfdb_files.specs.declared.kinds.FileKind.{FileKind}
use Rattle.bpf_load.specs.Targets.{contents, texts}
use Rattle.bpfdb.specs.Files.{GivesFirst}
use Rattle.bpfdb.proofs.files.read_each.Goals as goal

-- one more file
one_more : (bytes_at : List ℕ → Option (List ℕ)) (kind : FileKind) (paths : List (Bor (List ℕ))) (k : ℕ) (none : Bor (List ℕ)) (before all : List (Vec ℕ Global)) (bytes : Vec ℕ Global)
    → k < length paths → all ≡ before ++ bytes ∷ [] → GivesFirst bytes_at kind (texts paths) k (contents before)
    → Gives kind (bytes_at (get_or paths k none).now) (Some bytes.items) → GivesFirst bytes_at kind (texts paths) (k + 1) (contents all)
one_more bytes_at kind paths k none before all bytes inside same made gives =
    let named = sym (get_or-map (λ p. p.now) paths k none [] inside) in
    subst (λ n. GivesFirst bytes_at kind (texts paths) n (contents all)) (sym (add-one k))
    (contents before, made, bytes.items, subst (λ p. Gives kind (bytes_at p) (Some bytes.items)) named gives, ap contents same ∙ map-append (λ b. b.items) before (bytes ∷ []))

pub loop-k-preserved : goal.loop-k-preserved
loop-k-preserved g c =
    one_more (g.F.Opener.bytes_at c.args.files.now) c.args.kind c.args.paths.now c.loop-k.k record { ref_ptr = (0, 0); now = [] } c.loop-k.all.items c.push.new.self.items c.in-Ok.bytes
    c.loop-k-test.true c.in-Ok-push.ensures.items c.loop-k.invariant c.in-Ok.ensures.ok
