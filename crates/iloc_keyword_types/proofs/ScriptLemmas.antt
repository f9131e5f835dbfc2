-- Lists of scripts, read and written one by one.
use Rattle.std.proofs.Common.{◌≡◌, ℕ, ◌+◌, ◌<◌, ◌≤◌, List, [], ◌∷◌, ◌++◌, length, get_or, drop, refl, sym, ap, ◌∙◌, arith, append-nil, append_assoc, true, false, true≢false, Option, Some, None}
use Rattle.std.proofs.lemmas.List.{drop_all, drop_more, length_push}
use Rattle.iloc_spec_grammar.specs.Syntax.{Text, Script, word}
use Rattle.iloc_spec_parts.specs.Keywords.{with_first, scripts_read}

-- the scripts so far, and what the rest reads as
abbrev pub together : List Text → Option (List Text) → Option (List Text)
together ss None = None
together ss (Some rs) = Some (ss ++ rs)

pub none_before : (o : Option (List Text)) → together [] o ≡ o
none_before None = refl
none_before (Some rs) = refl

one_more : (ss : List Text) (s : Text) (o : Option (List Text)) →
    together ss (with_first (Some s) o) ≡ together (ss ++ s ∷ []) o
one_more ss s None = refl
one_more ss s (Some rs) = ap Some (sym (append_assoc ss (s ∷ []) rs))

-- the item at a place, and those after it
at : (ws : List Text) (i : ℕ) (w : Text) → i < length ws → w ≡ get_or ws i w →
    drop i ws ≡ w ∷ drop (i + 1) ws
at ws i w lt is = drop_more ws i w lt ∙ ap (λ v. v ∷ drop (i + 1) ws) (sym is)

pub takes_script : (ws ss : List Text) (i : ℕ) (w s : Text) → i < length ws → w ≡ get_or ws i w →
    word Script w ≡ Some s → together ss (scripts_read (drop i ws)) ≡ scripts_read ws →
    together (ss ++ s ∷ []) (scripts_read (drop (i + 1) ws)) ≡ scripts_read ws
takes_script ws ss i w s lt is read h =
    sym (one_more ss s (scripts_read (drop (i + 1) ws)))
    ∙ ap (λ o. together ss (with_first o (scripts_read (drop (i + 1) ws)))) (sym read)
    ∙ ap (λ xs. together ss (scripts_read xs)) (sym (at ws i w lt is))
    ∙ h

pub refuses_word : (ws ss : List Text) (i : ℕ) (w : Text) → i < length ws → w ≡ get_or ws i w →
    word Script w ≡ None → together ss (scripts_read (drop i ws)) ≡ scripts_read ws → scripts_read ws ≡ None
refuses_word ws ss i w lt is read h =
    sym (ap (λ o. together ss (with_first o (scripts_read (drop (i + 1) ws)))) (sym read)
    ∙ ap (λ xs. together ss (scripts_read xs)) (sym (at ws i w lt is))
    ∙ h)

pub ends : (ws ss : List Text) (i : ℕ) → length ws ≤ i →
    together ss (scripts_read (drop i ws)) ≡ scripts_read ws → scripts_read ws ≡ Some ss
ends ws ss i h so =
    sym so ∙ ap (λ xs. together ss (scripts_read xs)) (drop_all i ws h) ∙ ap Some (append-nil ss)

pub lengthens : (ss : List Text) (s : Text) (i : ℕ) → length ss ≡ i → length (ss ++ s ∷ []) ≡ i + 1
lengthens ss s i h = length_push ss s ∙ ap (λ n. n + 1) h

pub no_room : (n m i : ℕ) → (n < 4 → false ≡ true) → n ≡ i → i < m → 4 < m
no_room n m i f e l = let many : n < 4 → ⊥ = λ h. true≢false (sym (f h)) in omega (arith, many, e, l)
