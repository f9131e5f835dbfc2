-- The outline of a text from that of its head: good texts, and heads that are refused.
use Rattle.std.proofs.Common.{arith, ◌≡◌, ℕ, Bool, true, false, List, [], ◌++◌, length, refl, sym, ap, ◌∙◌, append-nil}
use Rattle.std.proofs.lemmas.List.{append_cancel_left}
use Rattle.iloc_spec_grammar.specs.Syntax.{Text, Language, head, is_word, languages, pieces}
use Rattle.iloc_spec_grammar.specs.Meaning.{Fault, HasIdentifierFault, SpellsIdentifier, normal_identifier, not_a_language, not_an_identifier}
use Rattle.iloc_spec_grammar.specs.Meaning as faults
use Rattle.iloc_spec_grammar.proofs.PiecesLaws.{pieces_nonempty}
use Rattle.iloc_outline.specs.Blocks.{ReadsBlocks}
use Rattle.iloc_pieces.specs.Cursor.{pieces_left, bytes_left}
use Rattle.iloc_outline.specs.Outlines.{AreHeadRead, BeginsWithLanguage, IsFinished, IsIdentifierOutlined, IsLocaleOutlined, ReadsHead}
use Rattle.iloc_spans.specs.Spans.{held_spans}
use Rattle.iloc_pieces.specs.declared.place.Cursor.{Cursor}
use Rattle.iloc_outline.specs.declared.outline.Head.TheVariants as heads
use Rattle.iloc_outline.specs.declared.outline.Outline.{Outline}
use Rattle.iloc_outline.specs.declared.outline.Outlined.TheVariants.{Normal}
use Rattle.iloc_spans.specs.declared.spans.Spans.{Spans}
use Rattle.iloc_subtags.specs.Judging.{Refusal}
use Rattle.iloc_subtags.specs.declared.parse_error.ParseError.{ParseError}
use Rattle.iloc_subtags.specs.declared.parse_error.ParseError.TheVariants.{OutOfMemory}
use Rattle.iloc_outline.proofs.OutlineLemmas.{all_head, alone_in_order, alone_outlined, identifier_in_order, identifier_outlined, locale_in_order, locale_outlined, whole}
use Rattle.iloc_spec_grammar.proofs.SameFaults.{first_of_head}

-- what holds of the outline of a text in order, and of another, holds of the finished one
finish : (P : Spans → Outline → Type 0) (t : Text) (o : Outline) (end : ℕ) (n : Bool)
    (old new : Spans) (r : Outline) → end ≡ length t → IsFinished o end n old new r
    → (n ≡ true → (none : Spans) → held_spans none ≡ [] → P none (whole t o)) → P old o → P new r
finish P t o end true old new r e (is, none) good kept = grind arith
finish P t o end false old new r e (is, same) good kept = grind arith

-- ---- the head is all of the text

module _ (t : Text) (o : Outline) (spans : Spans) (n : Bool) (h : ReadsHead t (pieces t) o spans n) (end : ℕ)
    (new : Spans) (r : Outline) (e : end ≡ length t) (f : IsFinished o end n spans new r) where
  pub finished_identifier : IsIdentifierOutlined t new (Normal r)
  finished_identifier = finish (λ s q. IsIdentifierOutlined t s (Normal q)) t o end n spans new r e f
      (identifier_in_order t o spans n h) (identifier_outlined t o spans n h)

  pub finished_alone : IsLocaleOutlined t new (Normal r)
  finished_alone = finish (λ s q. IsLocaleOutlined t s (Normal q)) t o end n spans new r e f
      (alone_in_order t o spans n h) (alone_outlined t o spans n h)

-- ---- blocks follow

-- they are good
pub finished_locale : (t : Text) (o : Outline) (before : Spans) (m : Bool) (l : Cursor) (spans : Spans)
    (n : Bool) → AreHeadRead t l before m (heads.Block o) → ReadsBlocks l before spans m n
    → (end : ℕ) (new : Spans) (r : Outline) → end ≡ length t → IsFinished o end n spans new r
    → IsLocaleOutlined t new (Normal r)
finished_locale t o before m l spans n (later, same, single, cut, after, begun, h) b end new r e f =
    finish (λ s q. IsLocaleOutlined t s (Normal q)) t o end n spans new r e f
    (locale_in_order t o before m l h same cut after spans n b)
    (locale_outlined t o before m l h same cut after spans n b)

-- ---- no identifier

-- pieces that are an identifier are all of the head
head_all : (ps : List Text) → SpellsIdentifier languages ps → head ps ≡ ps
head_all ps s = (all_head ps (normal_identifier s.0)
    (record { written = s.0; grammatical = s.1; spelled = s.2; means = refl })).0

-- an identifier has no block
pub refuses_block : (t : Text) (l : Cursor) → BeginsWithLanguage t
    → pieces t ≡ head (pieces t) ++ pieces_left l
    → HasIdentifierFault languages (pieces t) faults.InvalidSubtag
refuses_block t l word cut = not_an_identifier word (λ s. pieces_nonempty (bytes_left l)
    (sym (append_cancel_left (pieces t) [] (pieces_left l)
    (append-nil (pieces t) ∙ cut ∙ ap (λ ps. ps ++ pieces_left l) (head_all (pieces t) s)))))

-- the fault of the head is one of all pieces
fault_of_all : (ps : List Text) {f : Fault} → HasIdentifierFault languages (head ps) f
    → HasIdentifierFault languages ps f
fault_of_all ps (not_a_language e) =
    not_a_language (ap (is_word (Language languages)) (sym (first_of_head ps)) ∙ e)
fault_of_all ps (not_an_identifier word n) =
    not_an_identifier (ap (is_word (Language languages)) (sym (first_of_head ps)) ∙ word)
    (λ s. n (rw (head_all ps s) s))

pub refused_all : (ps : List Text) (e : ParseError) → Refusal (HasIdentifierFault languages (head ps)) ⊥ e
    → Refusal (HasIdentifierFault languages ps) ⊥ e
refused_all ps OutOfMemory h = h
refused_all ps _ h = fault_of_all ps h
