-- The attributes of a locale: what setting them does.
use Rattle.std.specs.Prelude.{◌≡◌, ℕ, false, List, [], ◌∷◌, ◌++◌, slice_get, Option}
use Rattle.iloc_spec_grammar.specs.Syntax.{Text, Attribute, IsWord, is_word, normal}
use Rattle.iloc_spec_grammar.specs.Meaning.{Locale, set_of}
use Rattle.iloc_spec_grammar.specs.Meaning as faults
use Rattle.iloc_subtags.specs.Judging.{Only}
use Rattle.iloc_calls.specs.declared.status.Status.TheVariants.{OutOfMemory}
use Rattle.iloc_handles.specs.Finding.{Changing, Sets, Removes}
use Rattle.iloc_handles.specs.Subtags.{HasWord, without_word}

-- the attributes
abbrev pub attributes_of : Locale → List Text
attributes_of M = M.extensions.unicode.attributes

-- the attributes are others, and all else is the same
abbrev pub with_attributes : List Text → Locale → Locale
with_attributes ws M =
    let u = M.extensions.unicode in
    record M { extensions = record M.extensions { unicode = record u { attributes = ws } } }

-- the attribute at an index
abbrev pub attribute_at : ℕ → Locale → Option Text
attribute_at i M = slice_get (attributes_of M) i

-- the attribute is among them; memory may be wanted
abbrev pub AddsAttribute : Text → Changing
AddsAttribute t = Sets
    (λ before after. IsWord Attribute t
    × (after ≡ with_attributes (set_of (attributes_of before ++ normal Attribute t ∷ [])) before))
    (Only faults.InvalidExtension (is_word Attribute t ≡ false)) (Unit {0})

-- the attribute is not among them any more; memory may be wanted only if it was there, and then they
-- stay
abbrev pub RemovesAttribute : Text → Changing
RemovesAttribute t before after OutOfMemory = HasWord Attribute t (attributes_of before)
    × (after ≡ before)
RemovesAttribute t before after status = Removes (λ M. HasWord Attribute t (attributes_of M))
    (λ M. with_attributes (without_word Attribute t (attributes_of M)) M) before after status
