-- Steps of the tree: the eight ways to change an accepted text, as changes of the tree that it
-- spells. No contract of a type rests on them: SameSteps shows that they agree with those of
-- Values.
use Rattle.std.specs.Prelude.{◌≡◌, ℕ, ◌<◌, List, [], length, map, Option, Some, not}
use Rattle.std.specs.List.{AllZip}
use Rattle.iloc_spec_grammar.specs.Syntax.{Text, LanguageLengths, Block, Field, join, pieces, Subtag, lower}
use Rattle.iloc_spec_grammar.specs.Syntax.{word_cmp, is_true, is_word, SpelledIdentifier, Fields}
use Rattle.iloc_spec_grammar.specs.Syntax.{identifier_pieces, AllDifferent, IsIdentifier}
use Rattle.iloc_spec_grammar.specs.Values.{Reordered, Without, WithoutRepeats}
use Rattle.iloc_spec_grammar.specs.Tree.{Extension, unicode, transform, other, Written, spelling, IsWritten}

-- some values that are `true` are left out
abbrev pub TreeLessTrue : Field → Field → Type 0
TreeLessTrue (k, vs) (l, ws) = (k ≡ l) × Without (λ p. is_true (lower p)) vs ws

-- no two keys are equal without case
abbrev pub keys_differ : Fields → Type 0
keys_differ fs = AllDifferent word_cmp (map (λ (key, _). lower key) fs)

-- six of the eight change the inside of parts, everywhere at once
pub data TreeRule : Type 0 where
  VariantOrder AttributeOrder FieldOrder Repeats Trues DroppedPieces : TreeRule

-- an identifier but for its variants
abbrev pub identifier_with : Text → Option Text → Option Text → List Text → SpelledIdentifier
identifier_with l s r vs = record { language = l; script = s; region = r; variants = vs }

-- a step inside an identifier, if it has one: other steps leave it as it is
pub data TreeIdentifierStep : TreeRule → SpelledIdentifier → SpelledIdentifier → Type 0 where
  same : {r : TreeRule} {i : SpelledIdentifier} → TreeIdentifierStep r i i
  -- `en-posix-macos` to `en-macos-posix`
  variants : {l : Text} {s r : Option Text} {vs ws : List Text} → Reordered vs ws
      → TreeIdentifierStep VariantOrder (identifier_with l s r vs) (identifier_with l s r ws)

-- what follows `u`, and what follows `t`
abbrev pub unicode_extension : List Text → Fields → Extension
unicode_extension vs fs = unicode (record { attributes = vs; keywords = fs })

-- the extension of `t` with this identifier and these fields
abbrev pub transform_extension : Option SpelledIdentifier → Fields → Extension
transform_extension i fs = transform (record { id = i; fields = fs })

-- a step inside an extension: fields are reordered only if all keys differ; a field of `t` keeps
-- a value
pub data ExtensionStep : TreeRule → Extension → Extension → Type 0 where
  same : {r : TreeRule} {e : Extension} → ExtensionStep r e e
  -- `t-en-posix-macos` to `t-en-macos-posix`
  identifier : {r : TreeRule} {i j : SpelledIdentifier} {fs : Fields} → TreeIdentifierStep r i j
      → ExtensionStep r (transform_extension (Some i) fs) (transform_extension (Some j) fs)
  -- `u-foo-bar` to `u-bar-foo`
  attribute_order : {vs ws : List Text} {fs : Fields} → Reordered vs ws
      → ExtensionStep AttributeOrder (unicode_extension vs fs) (unicode_extension ws fs)
  -- `u-hc-h12-ca-foo` to `u-ca-foo-hc-h12`
  keyword_order : {vs : List Text} {fs gs : Fields} → keys_differ fs → Reordered fs gs
      → ExtensionStep FieldOrder (unicode_extension vs fs) (unicode_extension vs gs)
  -- `t-m0-foo-h0-bar` to `t-h0-bar-m0-foo`
  field_order : {i : Option SpelledIdentifier} {fs gs : Fields} → keys_differ fs → Reordered fs gs
      → ExtensionStep FieldOrder (transform_extension i fs) (transform_extension i gs)
  -- `u-foo-FOO-ca-foo-ca-bar` to `u-foo-ca-foo`
  unicode_repeats : {vs ws : List Text} {fs gs : Fields} → WithoutRepeats (λ a. a) [] vs ws
      → WithoutRepeats (λ (key, _). key) [] fs gs
      → ExtensionStep Repeats (unicode_extension vs fs) (unicode_extension ws gs)
  -- `t-m0-foo-m0-bar` to `t-m0-foo`
  transform_repeats : {i : Option SpelledIdentifier} {fs gs : Fields}
      → WithoutRepeats (λ (key, _). key) [] fs gs
      → ExtensionStep Repeats (transform_extension i fs) (transform_extension i gs)
  -- `u-ca-foo-true` to `u-ca-foo`
  unicode_trues : {vs : List Text} {fs gs : Fields} → AllZip TreeLessTrue fs gs
      → ExtensionStep Trues (unicode_extension vs fs) (unicode_extension vs gs)
  -- `t-m0-foo-true` to `t-m0-foo`
  transform_trues : {i : Option SpelledIdentifier} {fs gs : Fields}
      → AllZip (λ f g. TreeLessTrue f g × (0 < length g.1)) fs gs
      → ExtensionStep Trues (transform_extension i fs) (transform_extension i gs)
  -- `a-foo-!!-bar` to `a-foo-bar`
  dropped_pieces : {ps qs : List Text} → Without (λ p. not (is_word Subtag p)) ps qs
      → ExtensionStep DroppedPieces (other ps) (other qs)

-- a written locale of these parts
abbrev pub written : SpelledIdentifier → List (ℕ × Extension) → Option Block → Written
written i es x = record { id = i; extensions = es; private = x }

-- a step of a written locale: its blocks in another order, or one rule inside its parts
pub data Step : Written → Written → Type 0 where
  -- `en-u-ca-foo-a-bar` to `en-a-bar-u-ca-foo`
  block_order : {i : SpelledIdentifier} {es fs : List (ℕ × Extension)} {x : Option Block}
      → Reordered es fs → Step (written i es x) (written i fs x)
  inside : (r : TreeRule) → {i j : SpelledIdentifier} {es fs : List (ℕ × Extension)}
      {x : Option Block} → TreeIdentifierStep r i j
      → AllZip (λ e f. (e.0 ≡ f.0) × ExtensionStep r e.1 f.1) es fs
      → Step (written i es x) (written j fs x)

-- one step leads from the text t to u: in the case of letters, or by a step of what it spells,
-- which follows the rules
pub data TreeTextStep (T : LanguageLengths) (t : Text) : Text → Type 0 where
  -- `EN-us` to `en-US`
  letter_case : {u : Text} → lower t ≡ lower u → TreeTextStep T t u
  rewritten : {v w : Written} → IsWritten T v → pieces t ≡ spelling v → Step v w
      → TreeTextStep T t (join (spelling w))

-- the same for the text of an identifier: in the case of letters, or in the order of variants
pub data TreeIdentifierTextStep (T : LanguageLengths) (t : Text) : Text → Type 0 where
  letter_case : {u : Text} → lower t ≡ lower u → TreeIdentifierTextStep T t u
  variant_order : {i j : SpelledIdentifier} → IsIdentifier T i → pieces t ≡ identifier_pieces i
      → TreeIdentifierStep VariantOrder i j
      → TreeIdentifierTextStep T t (join (identifier_pieces j))
