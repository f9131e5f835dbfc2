-- The outline of a text, and the text that it is of.
use Rattle.std.specs.Prelude.{◌≡◌, ℕ, ◌<◌, ◌≤◌, Bool, true, false, List, [], ◌++◌, length, flat_map, take}
use Rattle.iloc_spec_grammar.specs.Syntax.{Text, pieces, first_piece, dashes, languages, Language, IsWord}
use Rattle.iloc_spec_grammar.specs.Syntax.{SpelledIdentifier, Identifier, join, lower, head, is_one_byte}
use Rattle.iloc_spec_grammar.specs.Meaning.{Locale, Means, IdentifierMeans, HasFault, HasIdentifierFault}
use Rattle.iloc_spec_grammar.specs.Meaning.{normal_identifier}
use Rattle.iloc_spec_grammar.specs.Values.{text, identifier_text}
use Rattle.iloc_spec_grammar.specs.Reading.{after_head}
use Rattle.iloc_subtags.specs.Judging.{Refusal}
use Rattle.iloc_outline.specs.Blocks.{AreBegun}
use Rattle.iloc_outline.specs.Identifier.{front_text}
use Rattle.iloc_pieces.specs.Cursor.{IsLater, piece_left, pieces_left, whole_text}
use Rattle.iloc_outline.specs.Parts.{Part, printed_part, front_pieces, variant_parts}
use Rattle.iloc_outline.specs.Spans.{Spell}
use Rattle.iloc_spans.specs.Spans.{held_spans}
use Rattle.iloc_pieces.specs.declared.place.Cursor.{Cursor}
use Rattle.iloc_outline.specs.declared.outline.Head.{Head}
use Rattle.iloc_outline.specs.declared.outline.Head.TheVariants as heads
use Rattle.iloc_outline.specs.declared.outline.Outline.{Outline}
use Rattle.iloc_outline.specs.declared.outline.Outlined.{Outlined}
use Rattle.iloc_outline.specs.declared.outline.Outlined.TheVariants as outlined
use Rattle.iloc_spans.specs.declared.spans.Spans.{Spans}

-- what is printed for parts: each piece after a hyphen
abbrev pub parts_text : List Part → Text
parts_text ps = flat_map (λ p. dashes (printed_part p)) ps

-- the text of an outline, and of parts behind it
abbrev pub outline_text : Text → Outline → List Part → Text
outline_text t o ps = front_text o.script o.region (take o.front t) ++ parts_text ps

-- outline and spans give this text
pub record Gives (t : Text) (o : Outline) (spans : Spans) (normal : Text) : Type 0 where
  pub parts : List Part
  pub inside : o.front ≤ length t
  pub spell : Spell t spans parts
  pub text : normal ≡ outline_text t o parts

-- the first piece is a language
abbrev pub BeginsWithLanguage : Text → Type 0
BeginsWithLanguage t = IsWord (Language languages) (first_piece (pieces t))

-- there are more pieces than spans have room for
abbrev pub IsLimit : Text → Type 0
IsLimit t = 64 < length (pieces t)

abbrev pub IsIdentifierOutlined : Text → Spans → Outlined → Type 0
IsIdentifierOutlined t spans (outlined.Normal o) = (i : Identifier)
    × IdentifierMeans languages (pieces t) i × Gives t o spans (identifier_text i)
IsIdentifierOutlined t spans (outlined.Refused e) =
    Refusal (HasIdentifierFault languages (pieces t)) ⊥ e
IsIdentifierOutlined t spans outlined.Full = IsLimit t

abbrev pub IsLocaleOutlined : Text → Spans → Outlined → Type 0
IsLocaleOutlined t spans (outlined.Normal o) = (M : Locale)
    × Means languages t M × Gives t o spans (text M)
IsLocaleOutlined t spans (outlined.Refused e) = Refusal (HasFault languages t) ⊥ e
IsLocaleOutlined t spans outlined.Full = IsLimit t

-- a text in order is given by all of its bytes, and no span; another as it is
abbrev pub IsFinished : Outline → ℕ → Bool → Spans → Spans → Outline → Type 0
IsFinished o end true old new r =
    (r ≡ record { front = end; script = o.script; region = o.region }) × (held_spans new ≡ [])
IsFinished o end false old new r = (r ≡ o) × (new ≡ old)

-- the head is an identifier i whose variants were put; its front is printed as the outline says
pub record ReadsHead (t : Text) (ps : List Text) (o : Outline) (spans : Spans) (n : Bool) : Type 0 where
  pub written : SpelledIdentifier
  pub means : IdentifierMeans languages ps (normal_identifier written)
  pub inside : o.front ≤ length t
  pub front : front_text o.script o.region (take o.front t) ≡ join (front_pieces (normal_identifier written))
  pub variants : Spell t spans (variant_parts written.variants)
  pub few : length (variant_parts written.variants) ≤ length ps
  -- as it stands in the text, which goes on with rest
  pub order : n ≡ true → (rest : Text) → t ≡ join ps ++ rest
      → front_text o.script o.region t ≡ join (front_pieces (normal_identifier written))
      ++ (parts_text (variant_parts written.variants) ++ lower rest)

-- the head of a text was read, up to l where a block follows
abbrev pub AreHeadRead : Text → Cursor → Spans → Bool → Head → Type 0
AreHeadRead t l spans n (heads.All o) = ReadsHead t (pieces t) o spans n
AreHeadRead t l spans n (heads.Block o) = IsLater l × (whole_text l ≡ t)
    × (is_one_byte (piece_left l) ≡ true) × (pieces t ≡ head (pieces t) ++ pieces_left l)
    × (after_head (pieces t) ≡ pieces_left l) × AreBegun t spans × ReadsHead t (head (pieces t)) o spans n
AreHeadRead t l spans n (heads.Refused e) = Refusal (HasIdentifierFault languages (head (pieces t))) ⊥ e
AreHeadRead t l spans n heads.Full = IsLimit t
