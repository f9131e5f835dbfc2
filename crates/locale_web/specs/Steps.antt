-- What each piece is after those before it: how a text is read from the left.
use Rattle.std.specs.Prelude.{ℕ, Bool, false, ◌==◌, List, [], ◌∷◌, slice_index, if◌then◌else◌}
use Rattle.std.specs.Char.{to_ascii_lowercase}
use Rattle.std.specs.List.{AllByRecursion}
use Rattle.iloc_spec_grammar.specs.Syntax.{Text, code_t, code_u, code_x, is_one_byte, is_word, TransformKey}
use Rattle.iloc_spec_grammar.specs.Syntax.{UnicodeKey}
use Rattle.iloc_spec_grammar.specs.Syntax as words
use Rattle.iloc_pieces.specs.Cursor.{IsShortPiece}
use Rattle.locale_web.specs.Kinds.{KindedPiece}
use Rattle.locale_web.specs.declared.kind.Kind.{Kind}
use Rattle.locale_web.specs.declared.kind.Kind.TheVariants as kinds
use Rattle.locale_web.specs.declared.state.State.{State}
use Rattle.locale_web.specs.declared.state.State.TheVariants.{Start, Head, Transform, Source, Fields}
use Rattle.locale_web.specs.declared.state.State.TheVariants.{Attributes, Keywords, Other, Private}

-- what a word after a language is
abbrev pub word_kind : Text → Kind
word_kind p = if is_word words.Script p then kinds.Script else
    if is_word words.Region p then kinds.Region else kinds.Variant

-- the part that a singleton begins
abbrev pub begun : ℕ → State
begun c = if c == code_t then Transform else
    if c == code_u then Attributes else
    if c == code_x then Private else Other

-- whether the piece begins a part: no piece after `x` does
abbrev pub is_singleton_piece : State → Text → Bool
is_singleton_piece Private p = false
is_singleton_piece _ p = is_one_byte p

-- what a piece is that begins no part, and what comes after it
abbrev pub inside : State → Text → Kind × State
inside Start p = (kinds.Language, Head)
inside Head p = (word_kind p, Head)
inside Transform p = if is_word TransformKey p then (kinds.Field, Fields)
    else (kinds.Language, Source)
inside Source p = if is_word TransformKey p then (kinds.Field, Fields) else (word_kind p, Source)
inside Fields p = if is_word TransformKey p then (kinds.Field, Fields) else (kinds.Value, Fields)
inside Attributes p = if is_word UnicodeKey p then (kinds.Key, Keywords)
    else (kinds.Attribute, Attributes)
inside Keywords p = if is_word UnicodeKey p then (kinds.Key, Keywords)
    else (kinds.Value, Keywords)
inside Other p = (kinds.Other, Other)
inside Private p = (kinds.Private, Private)

-- what a piece is, and what comes after it
abbrev pub step : State → Text → Kind × State
step s p = if is_singleton_piece s p
    then (kinds.Singleton, begun (to_ascii_lowercase (slice_index p 0))) else inside s p

-- what each piece is
abbrev pub kinded : State → List Text → List KindedPiece
kinded s [] = []
kinded s (p ∷ ps) = ((step s p).0, p) ∷ kinded (step s p).1 ps

-- no piece is longer than a word
abbrev pub AreShortPieces : List Text → Type 0
AreShortPieces ps = AllByRecursion IsShortPiece ps
