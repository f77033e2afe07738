use Rattle.std.proofs.Common.{◌≡◌, ◌<◌, ◌+◌, ◌∙◌, ℕ, List, [], ◌∷◌, ◌++◌, add-one, ap, inr, length, subst, sym}
use Rattle.std.proofs.lemmas.List.{map-append}
use Rattle.std.specs.Prelude.{Option, Vec, get_or}
use Rattle.std.specs.declared.alloc.Global.{Global}
use Rattle.bpf_load.specs.Targets.{contents}
use Rattle.suite_files.specs.Refused.{IsCopyFault}
use Rattle.suite_files.specs.Replaced.{ReadFirst}
use Rattle.suite_files.specs.Shelves.{IsFile, IsShelf, path_of, paths_on, with_names, with_path}
use Rattle.suite_files.specs.declared.place.Place.{Place}
use Rattle.suite_files.specs.declared.shelf.Shelved.{Shelved}
use Rattle.suite_files.proofs.put.others_of.Goals as goal

-- one more file
one_more : (bytes_at : List ℕ → Option (List ℕ)) (place : Place) (names : List (List ℕ)) (k : ℕ) (before all : List (Vec ℕ Global)) (bytes : Vec ℕ Global)
    → all ≡ before ++ bytes ∷ [] → ReadFirst bytes_at place names k (contents before) → IsFile bytes_at place (get_or names k []) bytes.items
    → ReadFirst bytes_at place names (k + 1) (contents all)
one_more bytes_at place names k before all bytes same made file =
    subst (λ n. ReadFirst bytes_at place names n (contents all)) (sym (add-one k))
    (contents before, made, bytes.items, file, ap contents same ∙ map-append (λ b. b.items) before (bytes ∷ []))

-- and with its path one more
path_more : (bytes_at : List ℕ → Option (List ℕ)) (place : Place) (paths names : List (List ℕ)) (k : ℕ) (before after : List Shelved) (name : List ℕ)
    → name ≡ get_or names k [] → IsShelf bytes_at (with_names place paths names k) before
    → IsShelf bytes_at (with_path (paths_on before) (path_of place name)) after → IsShelf bytes_at (with_names place paths names (k + 1)) after
path_more bytes_at place paths names k before after name same was is =
    rw add-one (rw (was.are, same) at is)

pub loop-k-preserved : goal.loop-k-preserved
loop-k-preserved g c = record {
  first = one_more (g.F.Opener.bytes_at c.args.files.now) c.args.place.now c.args.asked.now.with.items c.loop-k.k c.loop-k.all.items c.push.new.self.items c.in-Ok.bytes
      c.in-Ok-push.ensures.items c.loop-k.invariant.first
      (subst (λ (name : List ℕ). IsFile (g.F.Opener.bytes_at c.args.files.now) c.args.place.now name c.in-Ok.bytes.items) c.with_at-name.ensures c.in-Ok.ensures.ok);
  shelf = path_more (g.F.Opener.bytes_at c.args.files.now) c.args.place.now (paths_on c.args.shelf.now.items) c.args.asked.now.with.items c.loop-k.k
      c.loop-k.shelf.items _ c.with_at-name.result.now c.with_at-name.ensures c.loop-k.invariant.shelf c.in-Ok.ensures.shelf;
}

pub returns-in-Err-clause-err : goal.returns-in-Err-clause-err
returns-in-Err-clause-err g c =
    let why =
    subst (λ (name : List ℕ). IsCopyFault c.args.place.now (paths_on c.loop-k.shelf.items) name c.in-Err.fault) c.with_at-name.ensures
    c.in-Err.ensures.err in
    inr (record {
      n = c.loop-k.k;
      inside = subst (λ (names : List (List ℕ)). c.loop-k.k < length names) c.as_slice-names.ensures.value c.loop-k-test.true;
      before = contents c.loop-k.all.items;
      read = c.loop-k.invariant.first;
      why =
          subst (λ (paths : List (List ℕ)). IsCopyFault c.args.place.now paths (get_or c.args.asked.now.with.items c.loop-k.k []) c.in-Err.fault)
          c.loop-k.invariant.shelf.are why;
    })
