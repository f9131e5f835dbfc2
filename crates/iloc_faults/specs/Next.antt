-- What may come next in a text, piece by piece, and what was read when it ends: a device of proofs.
-- Restates UTS #35, section 3, and what a data locale is, as a reader from the left keeps to it.
use Rattle.std.specs.Prelude.{ℕ, Bool, true, false, not, ◌&&◌, ◌||◌, ◌==◌, List, [], ◌∷◌, ◌++◌, length}
use Rattle.std.specs.Prelude.{slice_index, Option, Some, None, option_map, is_some, if◌then◌else◌, codes}
use Rattle.std.specs.Char.{is_ascii_alphanumeric, to_ascii_lowercase}
use Rattle.std.specs.Int.{is_in_range}
use Rattle.std.specs.List.{list_any}
use Rattle.std.specs.Ordering.{nat_cmp, eq_by_cmp}
use Rattle.iloc_spec_grammar.specs.Syntax.{Text, code_t, code_u, code_x, languages, is_word, Variant}
use Rattle.iloc_spec_grammar.specs.Syntax.{UnicodeKey, TransformKey, Attribute, Subtag, PrivateSubtag, lower}
use Rattle.iloc_spec_grammar.specs.Syntax.{word_cmp, is_same, is_true, is_one_byte}
use Rattle.iloc_spec_grammar.specs.Syntax as kinds
use Rattle.iloc_spec_grammar.specs.Meaning.{Fault, InvalidLanguage, InvalidSubtag, InvalidExtension}
use Rattle.iloc_spec_grammar.specs.Meaning.{DuplicatedExtension}
use Rattle.iloc_spec_parts.specs.SmallComputing.{is_u}
use Rattle.iloc_spec_parts.specs.DataLocales.{named_subdivision}
use Rattle.iloc_normalize.specs.declared.Mode.{Mode}
use Rattle.iloc_normalize.specs.declared.Mode.TheVariants.{Langid, Locale, Data}
use Rattle.iloc_faults.specs.declared.state.Part.{Part}
use Rattle.iloc_faults.specs.declared.state.Part.TheVariants.{Start, Head, Transform, Source, FieldKey}
use Rattle.iloc_faults.specs.declared.state.Part.TheVariants.{FieldValue, Unicode, Keyword, Other, OtherWord}
use Rattle.iloc_faults.specs.declared.state.Part.TheVariants.{Private, PrivateWord, Subdivision}
use Rattle.iloc_faults.specs.declared.state.Part.TheVariants.{SubdivisionKey, SubdivisionValue}
use Rattle.iloc_faults.specs.declared.state.Stage.{Stage}
use Rattle.iloc_faults.specs.declared.state.Stage.TheVariants.{Language, Script, Region}

-- what was read last, the variants of the identifier that is read, and the singletons before, all
-- in lower case
pub record Reached : Type 0 where
  pub part : Part
  pub variants : List Text
  pub seen : List ℕ

-- the part, without variants
abbrev pub plain : List ℕ → Part → Reached
plain seen part = record { part = part; variants = []; seen = seen }

-- nothing was read
abbrev pub started : Reached
started = plain [] Start

-- the part, if this holds
abbrev pub when : Bool → Part → Option Part
when holds part = if holds then Some part else None

-- whether a text may end after the part
abbrev pub may_end : Part → Bool
may_end Start = false
may_end Transform = false
may_end FieldKey = false
may_end Unicode = false
may_end Other = false
may_end Private = false
may_end Subdivision = false
may_end SubdivisionKey = false
may_end _ = true

-- Words of an identifier.

-- whether the variant may follow those before it: it is none of them, and a data locale has one
abbrev pub is_new : Mode → List Text → Text → Bool
is_new Data [] v = true
is_new Data (w ∷ ws) v = false
is_new _ vs v = not (list_any (eq_by_cmp word_cmp v) vs)

-- after a region
abbrev pub after_region_next : Mode → List Text → Text → Option (Stage × List Text)
after_region_next mode vs p = if is_word Variant p && is_new mode vs (lower p)
    then Some (Region, vs ++ (lower p ∷ [])) else None

-- after a script
abbrev pub after_script_next : Mode → List Text → Text → Option (Stage × List Text)
after_script_next mode vs p = if is_word kinds.Region p
    then Some (Region, vs) else after_region_next mode vs p

-- after the words up to that stage
abbrev pub word_next : Mode → Stage → List Text → Text → Option (Stage × List Text)
word_next mode Language vs p = if is_word kinds.Script p
    then Some (Script, vs) else after_script_next mode vs p
word_next mode Script vs p = after_script_next mode vs p
word_next mode Region vs p = after_region_next mode vs p

-- Pieces of a block.

-- after `sd`: `true`, or a subdivision
abbrev pub subdivision_next : Text → Option Part
subdivision_next p = if is_word Attribute p then (if is_true (lower p) then Some SubdivisionKey
    else when (is_some (named_subdivision (lower p))) SubdivisionValue) else None

-- after the part of a block other than `t` with its identifier
abbrev pub piece_next : Part → Text → Option Part
piece_next FieldKey p = when (is_word Attribute p) FieldValue
piece_next FieldValue p = if is_word TransformKey p then Some FieldKey
    else when (is_word Attribute p) FieldValue
piece_next Unicode p = when (is_word Attribute p || is_word UnicodeKey p) Keyword
piece_next Keyword p = when (is_word Attribute p || is_word UnicodeKey p) Keyword
piece_next Other p = when (is_in_range 2 8 (length p))
    (if is_word Subtag p then OtherWord else Other)
piece_next OtherWord p = when (is_in_range 2 8 (length p)) OtherWord
piece_next Private p = when (is_word PrivateSubtag p) PrivateWord
piece_next PrivateWord p = when (is_word PrivateSubtag p) PrivateWord
piece_next Subdivision p = when (is_same (lower p) (codes "sd")) SubdivisionKey
piece_next SubdivisionKey p = subdivision_next p
piece_next SubdivisionValue p = when (is_word Attribute p && is_true (lower p)) SubdivisionValue
piece_next _ p = None

-- after the part, if the piece begins no block
abbrev pub inside_next : Mode → Part → List Text → List ℕ → Text → Option Reached
inside_next mode Start vs seen p =
    option_map (plain seen) (when (is_word (kinds.Language languages) p) (Head Language))
inside_next mode (Head stage) vs seen p =
    option_map (λ w. record { part = Head w.0; variants = w.1; seen = seen })
    (word_next mode stage vs p)
inside_next mode Transform vs seen p = if is_word TransformKey p then Some (plain seen FieldKey)
    else option_map (plain seen) (when (is_word (kinds.Language languages) p) (Source Language))
inside_next mode (Source stage) vs seen p = if is_word TransformKey p
    then Some (plain seen FieldKey)
    else option_map (λ w. record { part = Source w.0; variants = w.1; seen = seen })
    (word_next mode stage vs p)
inside_next mode part vs seen p = option_map (plain seen) (piece_next part p)

-- Singletons.

-- what was read with the singleton, in lower case
abbrev pub part_of : ℕ → Part
part_of c = if c == code_t then Transform else
    if c == code_u then Unicode else
    if c == code_x then Private else Other

-- whether a block may begin with this byte after the part: it is a letter or digit
abbrev pub may_begin : Part → ℕ → Bool
may_begin part c = may_end part && is_ascii_alphanumeric c

-- whether one of these singletons is the byte, in lower case
abbrev pub is_seen : List ℕ → ℕ → Bool
is_seen seen c = list_any (eq_by_cmp nat_cmp (to_ascii_lowercase c)) seen

-- after the part, if a block begins with this byte
abbrev pub block_next : Mode → Part → List ℕ → ℕ → Option Reached
block_next Langid part seen c = None
block_next Locale part seen c = if may_begin part c && not (is_seen seen c)
    then Some (plain (to_ascii_lowercase c ∷ seen) (part_of (to_ascii_lowercase c))) else None
block_next Data (Head stage) seen c = if is_u c then Some (plain seen Subdivision) else None
block_next Data part seen c = None

-- whether a piece of one byte is no singleton after the part: at the beginning, and after `x`
abbrev pub takes_any : Part → Bool
takes_any Start = true
takes_any Private = true
takes_any PrivateWord = true
takes_any _ = false

-- whether the piece begins a block after the part
abbrev pub begins_block : Part → Text → Bool
begins_block part p = is_one_byte p && not (takes_any part)

-- what was read with one piece more, if that may come next
abbrev pub next : Mode → Reached → Text → Option Reached
next mode r p = if begins_block r.part p
    then block_next mode r.part r.seen (slice_index p 0)
    else inside_next mode r.part r.variants r.seen p

-- Why a text is refused as an identifier or a locale.

-- the fault of a piece that begins a block and may not come next in a locale
abbrev pub block_refusal : Part → ℕ → Fault
block_refusal part c = if may_begin part c then DuplicatedExtension else InvalidExtension

-- the fault of another piece that may not come next
abbrev pub inside_refusal : Part → Text → Fault
inside_refusal Start p = InvalidLanguage
inside_refusal (Head stage) p = InvalidSubtag
inside_refusal (Source stage) p = if is_word Variant p then InvalidSubtag else InvalidExtension
inside_refusal part p = InvalidExtension

-- the fault of a piece that may not come next
abbrev pub piece_fault : Mode → Part → Text → Fault
piece_fault Langid part p = inside_refusal part p
piece_fault _ part p = if begins_block part p then block_refusal part (slice_index p 0)
    else inside_refusal part p

-- what follows from the next state, or this fault if there is none
abbrev pub on_next : Fault → (Reached → Option Fault) → Option Reached → Option Fault
on_next fault go None = Some fault
on_next fault go (Some r) = go r

-- the fault of what follows, if it has one
abbrev pub outcome : Mode → Reached → List Text → Option Fault
outcome mode r [] = if may_end r.part then None else Some InvalidExtension
outcome mode r (p ∷ ps) =
    on_next (piece_fault mode r.part p) (λ s. outcome mode s ps) (next mode r p)

-- what was read with more pieces
abbrev pub run : Mode → Option Reached → List Text → Option Reached
run mode None ps = None
run mode (Some r) [] = Some r
run mode (Some r) (p ∷ ps) = run mode (next mode r p) ps
