-- Data locales that are refused for their first piece of one byte.
use Rattle.std.proofs.Common.{◌≡◌, true, false, get_or, inl, inr}
use Rattle.std.specs.Char.{is_ascii_alphanumeric}
use Rattle.std.proofs.lemmas.Bool.{cases_Bool}
use Rattle.iloc_spec_grammar.specs.Syntax.{Text, pieces}
use Rattle.iloc_spec_grammar.specs.Reading.{after_front, starts_block}
use Rattle.iloc_spec_parts.specs.SmallComputing.{is_u}
use Rattle.iloc_pieces.specs.Front.{IsFound, HasBlock}
use Rattle.iloc_pieces.specs.declared.window.Window.{Window}
use Rattle.iloc_subtags.specs.declared.parse_error.ParseError.TheVariants.{InvalidSubtag}
use Rattle.iloc_normalize.specs.Answered.{HasRefusal}
use Rattle.iloc_normalize.specs.declared.Mode.TheVariants.{Data}
use Rattle.iloc_normalize.proofs.FrontAnswers.{misfit_refused, other_block_refused}

-- if it follows the words of an identifier, it is the first block
pub is_first : (t : Text) (b : Window) → IsFound t b → starts_block (after_front (pieces t)) ≡ true →
    HasBlock t b
unfolding after_front
is_first t b f is = (f.begins, record { rest = f.next is; singleton = f.singleton })

-- a text that is refused for its first block is refused for this one: another piece that fits nowhere is
-- refused too
pub found_refused : (t : Text) (b : Window) → IsFound t b →
    (HasBlock t b → HasRefusal Data t InvalidSubtag) → HasRefusal Data t InvalidSubtag
found_refused t b f refused = elim (cases_Bool (starts_block (after_front (pieces t)))) [
  | inl is ↦ refused (is_first t b f is)
  | inr other ↦ misfit_refused Data t f.begins other
]

pub other_found_refused : (t : Text) (b : Window) → IsFound t b →
    is_ascii_alphanumeric (get_or b.bytes.now 0 0) ≡ true → is_u (get_or b.bytes.now 0 0) ≡ false →
    HasRefusal Data t InvalidSubtag
other_found_refused t b f letter other =
    found_refused t b f (λ h. other_block_refused t b h.0 h.1 letter other)
