-- A step lengthens no text, and makes no hyphen.
use Rattle.std.proofs.Common.{◌≡◌, ℕ, false, ◌+◌, ◌≤◌, Bool, cond, ◌==◌, List, [], ◌∷◌, length, map, flat_map, refl, arith, option_to_list, le_refl, length-append}
use Rattle.std.specs.List.{AllByRecursion, list_any}
use Rattle.std.proofs.lemmas.List.Concat.{flat_map-append}
use Rattle.iloc_spec_grammar.specs.Syntax.{LanguageLengths, Field, Text, pieces, join, SpelledIdentifier, Fields, identifier_pieces, fields_pieces}
use Rattle.iloc_spec_grammar.specs.Tree.{Extension, Written, extension_pieces, extension_block, block_pieces, spelling, IsWritten, TreeMeans, meaning}
use Rattle.iloc_spec_grammar.specs.TreeSteps.{TreeLessTrue, TreeRule, TreeIdentifierStep, ExtensionStep, Step}
use Rattle.iloc_spec_grammar.proofs.PiecesLaws.{pieces-join, pieces_hyphen_free, join-pieces}
use Rattle.iloc_spec_grammar.proofs.Orders.{total, total-append, total_reordered, total_without, total_repeats, total_zip}
use Rattle.iloc_spec_grammar.proofs.StepLaws.{written_step}
use Rattle.std.proofs.lemmas.Bool.{false_from_ne_true}

module _ (f : Text → ℕ) where
  abbrev field_size : Field → ℕ
  field_size k = f k.0 + total f k.1

  fields_size : (fs : Fields) → total f (fields_pieces fs) ≡ total field_size fs
  fields_size [] = refl
  fields_size (k ∷ fs) = rw (total-append, fields_size fs)

  pub identifier_size : {r : TreeRule} {i j : SpelledIdentifier} → TreeIdentifierStep r i j →
      total f (identifier_pieces j) ≡ total f (identifier_pieces i)
  identifier_size TreeIdentifierStep.same = refl
  identifier_size (TreeIdentifierStep.variants p) =
      let e = total_reordered f p in omega (arith, total-append f)

  less_size : (j k : Field) → TreeLessTrue j k → field_size k ≤ field_size j
  less_size j k z = grind (arith, total_without)

  extension_size : {r : TreeRule} {e g : Extension} → ExtensionStep r e g →
      total f (extension_pieces g) ≤ total f (extension_pieces e)
  extension_size ExtensionStep.same = le_refl _
  extension_size (ExtensionStep.identifier {i = i} {j = j} {fs = fs} s) =
      grind (arith, total-append, identifier_size)
  extension_size (ExtensionStep.attribute_order r) =
      let c = total_reordered f r in omega (arith, total-append f)
  extension_size (ExtensionStep.keyword_order d r) = grind (arith, total_reordered, total-append, fields_size)
  extension_size (ExtensionStep.field_order d r) = grind (arith, total_reordered, total-append, fields_size)
  extension_size (ExtensionStep.unicode_repeats r s) = grind (arith, total_repeats, total-append, fields_size)
  extension_size (ExtensionStep.transform_repeats s) = grind (arith, total_repeats, total-append, fields_size)
  extension_size (ExtensionStep.unicode_trues {fs = fs} {gs = gs} z) =
      grind (arith, total_zip, less_size, total-append, fields_size)
  extension_size (ExtensionStep.transform_trues {fs = fs} {gs = gs} z) =
      grind (arith, total_zip, less_size, total-append, fields_size)
  extension_size (ExtensionStep.dropped_pieces w) = total_without f _ w

  abbrev block_size : ℕ × Extension → ℕ
  block_size e = f (e.0 ∷ []) + total f (extension_pieces e.1)

  blocks_size : (es : List (ℕ × Extension)) →
      total f (flat_map block_pieces (map extension_block es)) ≡ total block_size es
  blocks_size [] = refl
  blocks_size (e ∷ es) = rw (total-append, blocks_size es)

  spelling_size : (w : Written) →
      total f (spelling w)
      ≡ total f (identifier_pieces w.id)
      + (total block_size w.extensions + total f (flat_map block_pieces (option_to_list w.private)))
  spelling_size w = grind (arith, total-append, total, flat_map-append, blocks_size)

  block_step_size : (r : TreeRule) (e g : ℕ × Extension) → (e.0 ≡ g.0) × ExtensionStep r e.1 g.1 →
      block_size g ≤ block_size e
  block_step_size r e g z = grind (arith, extension_size)

  pub step_size : {v w : Written} → Step v w → total f (spelling w) ≤ total f (spelling v)
  step_size {v = v} {w = w} (Step.block_order {i = i} {es = es} {fs = fs} {x = x} r) =
      let a = spelling_size (record { id = i; extensions = es; private = x }) in
      let b = spelling_size (record { id = i; extensions = fs; private = x }) in
      let c = total_reordered block_size r in omega arith
  step_size (Step.inside r {i = i} {j = j} {es = es} {fs = fs} {x = x} s z) =
      let a = spelling_size (record { id = i; extensions = es; private = x }) in
      let b = spelling_size (record { id = j; extensions = fs; private = x }) in
      grind (arith, identifier_size, total_zip, block_step_size)

-- the length of a text is that of its pieces

abbrev pub piece_length : Text → ℕ
piece_length p = length p + 1

pub length-join : (p : Text) (ps : List Text) → length (join (p ∷ ps)) + 1 ≡ total piece_length (p ∷ ps)
unfolding join
length-join p [] = omega arith
length-join p (q ∷ ps) = grind (arith, length-append, length-join q ps)

-- how many pieces pass a test

abbrev counted : (Text → Bool) → Text → ℕ
counted test p = cond (test p) 1 0

none_counted : (test : Text → Bool) (ps : List Text) → AllByRecursion (λ p. test p ≡ false) ps →
    total (counted test) ps ≡ 0
none_counted test [] h = refl
none_counted test (p ∷ ps) h = search (none_counted test ps h.1)

all_uncounted : (test : Text → Bool) (ps : List Text) → total (counted test) ps ≡ 0 →
    AllByRecursion (λ p. test p ≡ false) ps
all_uncounted test [] h = tt
all_uncounted test (p ∷ ps) h = grind (arith, false_from_ne_true, all_uncounted test ps (omega arith))

-- a step makes no piece that passes a test
pub extension_passes : (test : Text → Bool) {r : TreeRule} {e g : Extension} → ExtensionStep r e g →
    AllByRecursion (λ p. test p ≡ false) (extension_pieces e) →
    AllByRecursion (λ p. test p ≡ false) (extension_pieces g)
extension_passes test {e = e} {g = g} s h = let a = none_counted test (extension_pieces e) h in
    let b = extension_size (counted test) s in all_uncounted test (extension_pieces g) (omega arith)

abbrev has_hyphen : Text → Bool
has_hyphen p = list_any (λ b. b == 45) p

pub step_pieces : (t : Text) {v w : Written} → pieces t ≡ spelling v → Step v w →
    pieces (join (spelling w)) ≡ spelling w
step_pieces t {v = v} {w = w} e s =
    let a : total (counted has_hyphen) (spelling v) ≡ 0 =
    grind (arith, total, none_counted, pieces_hyphen_free) in
    let b = step_size (counted has_hyphen) s in
    pieces-join w.id.language _ (all_uncounted has_hyphen (spelling w) (omega arith))

pub step_length : (t : Text) {v w : Written} → pieces t ≡ spelling v → Step v w →
    length (join (spelling w)) ≤ length t
step_length t {v = v} {w = w} e s =
    let a = step_size piece_length s in
    let b : length (join (spelling w)) + 1 ≡ total piece_length (spelling w) = length-join w.id.language _ in
    let c : length (join (spelling v)) + 1 ≡ total piece_length (spelling v) = length-join v.id.language _ in
    grind (arith, join-pieces)

-- the text after a step means the same
pub step_means : (T : LanguageLengths) (t : Text) {v w : Written} → IsWritten T v → pieces t ≡ spelling v →
    Step v w → TreeMeans T (join (spelling w)) (meaning v)
step_means T t {w = w} h e s = let p = written_step T s h in
    grind (arith, step_pieces)
