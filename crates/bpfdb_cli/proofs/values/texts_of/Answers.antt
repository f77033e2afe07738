use Rattle.std.proofs.Common.{◌≡◌, ◌≤◌, ◌<◌, ◌∙◌, ℕ, suc, List, [], ◌∷◌, Option, Some, None, IfSome, OnSome, ap, sym, subst, refl, arith, length, map}
use Rattle.std.specs.Borrow.{Bor}
use Rattle.std.specs.Prelude.{IfNone, unwrap_or}
use Rattle.clap.proofs.WalkLemmas.{raw_values-rows}
use Rattle.clap.specs.Words.{Row, Text, all_of, found_of, rows_of}
use Rattle.bpfdb_cli.specs.Plans.{most_texts, texts_in}
use Rattle.bpfdb_cli.proofs.values.texts_of.Goals as goal

in_rows : (id : Text) (rows : List Row) (texts : List (Bor Text)) → Some (map (λ text. text.now) texts) ≡ all_of id rows
    → map (λ text. text.now) texts ≡ texts_in id rows
in_rows id rows texts is = ap (λ (o : Option (List Text)). unwrap_or o []) is

none_in : (id : Text) (rows : List Row) → None ≡ all_of id rows → [] ≡ texts_in id rows
none_in id rows is = ap (λ (o : Option (List Text)). unwrap_or o []) is

same_length : (texts : List (Bor Text)) → length (map (λ text. text.now) texts) ≡ length texts
same_length [] = refl
same_length (text ∷ texts) = ap suc (same_length texts)

count_is : (id : Text) (rows : List Row) (texts : List (Bor Text)) → map (λ text. text.now) texts ≡ texts_in id rows → length texts ≡ length (texts_in id rows)
count_is id rows texts is = sym (same_length texts) ∙ ap length is

found_so : {X : Type 0} (items : X → List (Bor Text)) (id : Text) (rows : List Row) (texts : List (Bor Text)) (r : Option X) → map (λ text. text.now) texts ≡ texts_in id rows
    → IfSome r (λ x. items x ≡ texts) → IfSome r (λ x. map (λ text. text.now) (items x) ≡ texts_in id rows)
found_so items id rows texts (Some x) is found = ap (map (λ text. text.now)) found ∙ is
found_so items id rows texts None is found = found

few_so : {X : Type 0} (r : Option X) (a b : ℕ) → a ≡ b → OnSome r (a ≤ most_texts) → OnSome r (b ≤ most_texts)
few_so r a b is few = subst (λ n. OnSome r (n ≤ most_texts)) is few

many_so : {X : Type 0} (r : Option X) (a b : ℕ) → a ≡ b → IfNone r (most_texts < a) → IfNone r (most_texts < b)
many_so r a b is many = subst (λ n. IfNone r (most_texts < n)) is many

pub returns-in-Some-clause-found : goal.returns-in-Some-clause-found
returns-in-Some-clause-found c =
    let rows = rows_of (found_of c.args.found.now) in
    let all : Some (map (λ text. text.now) c.in-Some.texts.now) ≡ all_of c.args.id.now rows
    = rw c.in-Some.is at (c.get_strs.ensures ∙ raw_values-rows (found_of c.args.found.now) c.args.id.now) in
    found_so (λ x. x.items) c.args.id.now rows c.in-Some.texts.now c.few_texts.result (in_rows c.args.id.now rows c.in-Some.texts.now all) c.few_texts.ensures.found

pub returns-in-Some-clause-few : goal.returns-in-Some-clause-few
returns-in-Some-clause-few c =
    let rows = rows_of (found_of c.args.found.now) in
    let all : Some (map (λ text. text.now) c.in-Some.texts.now) ≡ all_of c.args.id.now rows
    = rw c.in-Some.is at (c.get_strs.ensures ∙ raw_values-rows (found_of c.args.found.now) c.args.id.now) in
    few_so c.few_texts.result _ _ (count_is c.args.id.now rows c.in-Some.texts.now (in_rows c.args.id.now rows c.in-Some.texts.now all)) c.few_texts.ensures.few

pub returns-in-Some-clause-none : goal.returns-in-Some-clause-none
returns-in-Some-clause-none c =
    let rows = rows_of (found_of c.args.found.now) in
    let all : Some (map (λ text. text.now) c.in-Some.texts.now) ≡ all_of c.args.id.now rows
    = rw c.in-Some.is at (c.get_strs.ensures ∙ raw_values-rows (found_of c.args.found.now) c.args.id.now) in
    many_so c.few_texts.result _ _ (count_is c.args.id.now rows c.in-Some.texts.now (in_rows c.args.id.now rows c.in-Some.texts.now all)) c.few_texts.ensures.none

pub returns-in-None-clause-found : goal.returns-in-None-clause-found
returns-in-None-clause-found c =
    let rows = rows_of (found_of c.args.found.now) in
    let all : None ≡ all_of c.args.id.now rows = rw c.in-None.is at (c.get_strs.ensures ∙ raw_values-rows (found_of c.args.found.now) c.args.id.now) in
    ap (map (λ text. text.now)) c.new.ensures ∙ none_in c.args.id.now rows all

few_none : (id : Text) (rows : List Row) → [] ≡ texts_in id rows → length (texts_in id rows) ≤ most_texts
few_none id rows is = subst (λ (l : List Text). length l ≤ most_texts) is (omega arith)

pub returns-in-None-clause-few : goal.returns-in-None-clause-few
returns-in-None-clause-few c =
    let rows = rows_of (found_of c.args.found.now) in
    let all : None ≡ all_of c.args.id.now rows = rw c.in-None.is at (c.get_strs.ensures ∙ raw_values-rows (found_of c.args.found.now) c.args.id.now) in
    few_none c.args.id.now rows (none_in c.args.id.now rows all)
