-- What the blocks of a text are read as.
use Rattle.std.specs.Prelude.{◌≡◌, ◌≢◌, ◌-◌, Bool, true, ℕ, List, [], ◌∷◌, ◌++◌, ◌==◌, length, map, flat_map}
use Rattle.std.specs.Prelude.{Some}
use Rattle.std.specs.Prelude.{None, MatchBool, if◌then◌else◌}
use Rattle.std.specs.List.{AllByRecursion}
use Rattle.std.specs.Char.{to_ascii_lowercase}
use Rattle.iloc_spec_grammar.specs.Syntax.{Text, code_x, front, blocks, languages, lower}
use Rattle.iloc_spec_grammar.specs.Meaning.{Fault}
use Rattle.iloc_spec_grammar.specs.Computing.{first_fault}
use Rattle.iloc_subtags.specs.Judging.{error_of}
use Rattle.iloc_pieces.specs.Cursor.{IsSpanned, pieces_left, whole_text}
use Rattle.iloc_outline.specs.Parts.{Part, blocks_parts, printed_part}
use Rattle.iloc_outline.specs.Reading.{IsBody, IsPrivateBody, IsTooMuch, Reader}
use Rattle.iloc_outline.specs.Spans.{Spell}
use Rattle.iloc_outline.specs.declared.blocks.Blocks.{Blocks}
use Rattle.iloc_outline.specs.declared.blocks.Blocks.TheVariants.{Good, Refused, Full}
use Rattle.iloc_pieces.specs.declared.place.Cursor.{Cursor}
use Rattle.iloc_outline.specs.declared.reading.Found.{Found}
use Rattle.iloc_spans.specs.declared.span.Role.TheVariants.{Singleton}
use Rattle.iloc_spans.specs.declared.spans.Spans.{Spans}

-- what belongs to the singleton c, of the pieces behind it: `x` takes all
abbrev pub body_of : ℕ → List Text → List Text
body_of c ps = if to_ascii_lowercase c == code_x then ps else front ps

-- the block of the singleton c and the pieces from l on is good, and was put; or why not
abbrev pub IsBlockRead : ℕ → Cursor → Cursor → Spans → Spans → Bool → Bool → Found → Type 0
IsBlockRead c l m old new o n r = MatchBool (to_ascii_lowercase c == code_x)
    (IsPrivateBody c l old new o n r) (IsBody c l m old new o n r)

-- the singleton, in whatever case, stands before what is left, and its hyphen at start
abbrev pub HasSingletonBefore : ℕ → ℕ → Cursor → Type 0
HasSingletonBefore byte start l = (c : ℕ) × (to_ascii_lowercase c ≡ byte)
    × IsSpanned (whole_text l) start (l.at - 1) ((c ∷ []) ∷ [])

-- the block was read so, whatever the case of the singleton, if its hyphen stands at start
abbrev pub IsBlockReadAt : ℕ → ℕ → Reader → Reader → Found → Type 0
IsBlockReadAt byte start from to r = (c : ℕ) → to_ascii_lowercase c ≡ byte
    → IsSpanned (whole_text from.cursor) start (from.cursor.at - 1) ((c ∷ []) ∷ [])
    → IsBlockRead c from.cursor to.cursor from.spans to.spans from.in_order to.in_order r

-- spans of the text, none of which is a singleton
abbrev pub AreBegun : Text → Spans → Type 0
AreBegun t spans = (ps : List Part) × AllByRecursion (λ q. q.role ≢ Singleton) ps × Spell t spans ps

-- no block is bad, and their parts are put behind those that are no singletons
pub record ReadsBlocks (l : Cursor) (old new : Spans) (o n : Bool) : Type 0 where
  pub good : first_fault languages [] (blocks (pieces_left l)) ≡ None
  pub adds : (ps : List Part) → AllByRecursion (λ q. q.role ≢ Singleton) ps → Spell (whole_text l) old ps
      → Spell (whole_text l) new (ps ++ blocks_parts (blocks (pieces_left l)))
  pub order : n ≡ true → (o ≡ true)
      × (flat_map printed_part (blocks_parts (blocks (pieces_left l))) ≡ map lower (pieces_left l))

-- so they are, or the first bad one has the fault
abbrev pub AreBlocksRead : Cursor → Spans → Spans → Bool → Bool → Blocks → Type 0
AreBlocksRead l old new o n Good = ReadsBlocks l old new o n
AreBlocksRead l old new o n (Refused e) = (f : Fault)
    × (first_fault languages [] (blocks (pieces_left l)) ≡ Some f) × (e ≡ error_of f)
AreBlocksRead l old new o n Full = IsTooMuch old (length (pieces_left l))
