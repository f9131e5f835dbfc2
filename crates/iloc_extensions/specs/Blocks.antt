-- What it takes to read the blocks after the head of a locale, one after the other. Restates UTS
-- #35, section 3: the extensions and the private part of unicode_locale_id.
use Rattle.std.specs.Prelude.{◌≡◌, ℕ, Bool, true, false, not, ◌&&◌, ◌==◌, List, [], ◌∷◌, length, is_some}
use Rattle.std.specs.Prelude.{if◌then◌else◌, Result}
use Rattle.std.specs.Char.{is_ascii_alphanumeric, to_ascii_lowercase}
use Rattle.std.specs.List.{list_any}
use Rattle.iloc_spec_grammar.specs.Syntax.{Text, LanguageLengths, Block, code_t, code_u, code_x, languages}
use Rattle.iloc_spec_grammar.specs.Syntax.{blocks}
use Rattle.iloc_spec_grammar.specs.Meaning.{Extensions, BlocksMean, HasBlockFault}
use Rattle.iloc_spec_grammar.specs.Reading.{starts_block}
use Rattle.iloc_spec_parts.specs.Inline.{ReachesLongBlock}
use Rattle.iloc_subtags.specs.declared.parse_error.ParseError.{ParseError}
use Rattle.iloc_subtags.specs.Judging.{Answers}

-- While blocks are read: those that were, the last one first, and those that are left.

-- the first list, turned, and then the second
abbrev pub onto : {X : Type 0} → List X → List X → List X
onto [] ys = ys
onto (x ∷ xs) ys = onto xs (x ∷ ys)

-- the blocks from start up to now mean e; there a block begins, or nothing is left
pub record BlocksDone (T : LanguageLengths) (start now : List Text) (e : Extensions) : Type 0 where
  pub done : List Block
  pub together : blocks start ≡ onto done (blocks now)
  pub begins : starts_block now ≡ true
  pub means : BlocksMean T done e

-- whether a part of this singleton, in lower case, was read: no part that was read is empty
abbrev pub is_read : Extensions → ℕ → Bool
is_read e c =
    if c == code_u
    then not ((length e.unicode.attributes == 0) && (length e.unicode.keywords == 0)) else
    if c == code_t then not (not (is_some e.transform.id) && (length e.transform.fields == 0)) else
    if c == code_x then not (length e.private == 0) else
    list_any (λ (s, _). s == c) e.others

-- a block begins with the byte c, a letter or digit whose part wasn't read yet
pub record BlockAt (T : LanguageLengths) (start : List Text) (c : ℕ) (ps : List Text)
    (e : Extensions) : Type 0 where
  pub before : BlocksDone T start ((c ∷ []) ∷ ps) e
  pub letter : is_ascii_alphanumeric c ≡ true
  pub new : is_read e (to_ascii_lowercase c) ≡ false

-- What reading one block answers, after the blocks that were read since start. Memory may run
-- out only if a block is reached that isn't short.
abbrev pub BlockReads : List Text → List Text → Extensions → Result (Unit {0}) ParseError → Type 0
BlockReads start rest e = Answers (λ _. BlocksDone languages start rest e)
    (HasBlockFault languages (blocks start)) (ReachesLongBlock languages (blocks start))
