-- The parts of the identifier of a locale: what each is, and what setting it does.
use Rattle.std.specs.Prelude.{◌≡◌, ℕ, ◌≤◌, false, List, [], ◌∷◌, length, slice_get, Option, unwrap_or, codes}
use Rattle.iloc_spec_grammar.specs.Syntax.{Text, Language, Script, Region, Variant, IsWord, is_word}
use Rattle.iloc_spec_grammar.specs.Syntax.{languages, normal}
use Rattle.iloc_spec_grammar.specs.Meaning.{Locale, set_of}
use Rattle.iloc_spec_grammar.specs.Meaning as faults
use Rattle.iloc_subtags.specs.Judging.{Only}
use Rattle.iloc_handles.specs.Finding.{Changing, Sets, Removes}
use Rattle.iloc_handles.specs.Subtags.{IsOptional, IsNeither, HasWord, without_word}

-- the language is another, and all else is the same
abbrev pub with_language : Text → Locale → Locale
with_language w M = record M { id = record M.id { language = w } }

-- the script is another, or absent
abbrev pub with_script : Option Text → Locale → Locale
with_script o M = record M { id = record M.id { script = o } }

-- the region is another, or absent
abbrev pub with_region : Option Text → Locale → Locale
with_region o M = record M { id = record M.id { region = o } }

-- the variants are others
abbrev pub with_variants : List Text → Locale → Locale
with_variants ws M = record M { id = record M.id { variants = ws } }

-- `und` is the language of an empty text
abbrev pub language_or_und : Option Text → Text
language_or_und o = unwrap_or o (codes "und")

-- the language becomes that of the text; nothing is allocated
abbrev pub SetsLanguage : Text → Changing
SetsLanguage t = Sets
    (λ before after. (o : Option Text) × IsOptional (Language languages) t o
    × (after ≡ with_language (language_or_und o) before))
    (Only faults.InvalidLanguage (IsNeither (Language languages) t)) ⊥

-- the script becomes that of the text, or absent
abbrev pub SetsScript : Text → Changing
SetsScript t = Sets
    (λ before after. (o : Option Text) × IsOptional Script t o × (after ≡ with_script o before))
    (Only faults.InvalidSubtag (IsNeither Script t)) ⊥

-- the region becomes that of the text, or absent
abbrev pub SetsRegion : Text → Changing
SetsRegion t = Sets
    (λ before after. (o : Option Text) × IsOptional Region t o × (after ≡ with_region o before))
    (Only faults.InvalidSubtag (IsNeither Region t)) ⊥

-- the variant is among the variants; memory may be wanted only if there are four or more
abbrev pub AddsVariant : Text → Changing
AddsVariant t before after status = Sets
    (λ before after. IsWord Variant t
    × (after ≡ with_variants (set_of (normal Variant t ∷ before.id.variants)) before))
    (Only faults.InvalidSubtag (is_word Variant t ≡ false)) (4 ≤ length before.id.variants)
    before after status

-- the variant is not among them any more
abbrev pub RemovesVariant : Text → Changing
RemovesVariant t = Removes (λ M. HasWord Variant t M.id.variants)
    (λ M. with_variants (without_word Variant t M.id.variants) M)

-- the text of an optional part: an empty one if it is absent
abbrev pub text_or_empty : Option Text → Text
text_or_empty o = unwrap_or o []

-- the variant at an index
abbrev pub variant_at : ℕ → Locale → Option Text
variant_at i M = slice_get M.id.variants i
