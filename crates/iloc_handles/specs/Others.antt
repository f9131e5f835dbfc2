-- The other extensions of a locale, by their singletons: what each is, and what setting one does.
use Rattle.std.specs.Prelude.{◌≡◌, ℕ, true, ◌==◌, not, List, [], filter, Option, option_map, is_some}
use Rattle.std.specs.Char.{to_ascii_lowercase}
use Rattle.std.specs.FinMap.{find, put}
use Rattle.std.specs.Ordering.{nat_cmp}
use Rattle.iloc_spec_grammar.specs.Syntax.{Text, Block, pieces, is_other_singleton}
use Rattle.iloc_spec_grammar.specs.Meaning.{Locale}
use Rattle.iloc_spec_grammar.specs.Meaning as faults
use Rattle.iloc_spec_grammar.specs.Values.{other_text}
use Rattle.iloc_spec_parts.specs.Fronts.{OtherRead}
use Rattle.iloc_spec_parts.specs.Parts.{PartRead}
use Rattle.iloc_subtags.specs.Judging.{Only}
use Rattle.iloc_handles.specs.Finding.{Changing, Sets, Removes}

-- the other extensions are others, and all else is the same
abbrev pub with_others : List Block → Locale → Locale
with_others os M = record M { extensions = record M.extensions { others = os } }

-- the extension of a singleton, in either case
abbrev pub other_at : ℕ → Locale → Option Block
other_at c M =
    let s = to_ascii_lowercase c in option_map (λ ws. (s, ws)) (find nat_cmp s M.extensions.others)

-- its text, with the singleton
abbrev pub other_text_at : ℕ → Locale → Option Text
other_text_at c M = option_map other_text (other_at c M)

-- there is one
abbrev pub HasOther : ℕ → Locale → Type 0
HasOther c M = is_some (other_at c M) ≡ true

-- the text is a singleton and what may follow it in a locale, and nothing is left
abbrev pub IsOtherText : Text → Block → Type 0
IsOtherText t o = PartRead is_other_singleton OtherRead (pieces t) o []

-- the extension of its singleton becomes that of the text; memory may be wanted
abbrev pub SetsOther : Text → Changing
SetsOther t = Sets
    (λ before after. (o : Block) × IsOtherText t o
    × (after ≡ with_others (put nat_cmp o.0 o.1 before.extensions.others) before))
    (Only faults.InvalidExtension ((o : Block) → ¬ (IsOtherText t o))) (Unit {0})

-- no extension has the singleton any more
abbrev pub RemovesOther : ℕ → Changing
RemovesOther c = Removes (HasOther c)
    (λ M. with_others (filter (λ (s, _). not (s == to_ascii_lowercase c)) M.extensions.others) M)
