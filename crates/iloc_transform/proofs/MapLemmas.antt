-- A map as its list of pairs: what is inserted or kept holds what was there.
use Rattle.std.proofs.Common.{◌≡◌, Bool, true, false, cond, List, [], ◌∷◌, is_some, Result, Ok, Err, OnOk, OnErr}
use Rattle.std.specs.FinMap.{put, find}
use Rattle.std.specs.List.{AllByRecursion, items_where_true}
use Rattle.iloc_spec_grammar.specs.Syntax.{Text, word_cmp, Fields, TransformKey}
use Rattle.iloc_spec_grammar.proofs.MapLaws.{same_words, all-put}
use Rattle.iloc_transform.specs.FieldsReading.{IsFieldPair}
use Rattle.iloc_transform.specs.ValueReading.{IsValueWord}
use Rattle.iloc_spec_grammar.specs.Values.{IsNormal}

pub put_pairs : (k : Text) (v : List Text) → IsNormal TransformKey k → AllByRecursion IsValueWord v →
    (es : Fields) → AllByRecursion IsFieldPair es → AllByRecursion IsFieldPair (put word_cmp k v es)
put_pairs k v n w es h = all-put word_cmp same_words IsFieldPair k v es (n, w) h

pub added_pairs : (k : Text) (v : List Text) → IsNormal TransformKey k → AllByRecursion IsValueWord v →
    (es : Fields) → AllByRecursion IsFieldPair es →
    AllByRecursion IsFieldPair (cond (is_some (find word_cmp k es)) es (put word_cmp k v es))
added_pairs k v n w es h =
    elim (is_some (find word_cmp k es)) as (λ b. AllByRecursion IsFieldPair (cond b es (put word_cmp k v es)))
    [ true ↦ h | false ↦ put_pairs k v n w es h ]

pub kept_pairs : {X : Type 0} (P : X → Type 0) (bs : List Bool) (xs : List X) → AllByRecursion P xs →
    AllByRecursion P (items_where_true bs xs)
kept_pairs P [] xs h = tt
kept_pairs P (b ∷ bs) [] h = tt
kept_pairs P (true ∷ bs) (x ∷ xs) h = (h.0, kept_pairs P bs xs h.1)
kept_pairs P (false ∷ bs) (x ∷ xs) h = kept_pairs P bs xs h.1

-- after a pair was set, or memory refused
pub set_pairs : {X Z : Type 0} (k : Text) (v : List Text) → IsNormal TransformKey k →
    AllByRecursion IsValueWord v → (es : Fields) → AllByRecursion IsFieldPair es →
    (fs : Fields) (r : Result X Z) → OnOk r (fs ≡ put word_cmp k v es) → OnErr r (fs ≡ es) →
    AllByRecursion IsFieldPair fs
set_pairs k v n w es h fs (Ok x) a b = rw a (put_pairs k v n w es h)
set_pairs k v n w es h fs (Err x) a b = rw b h
