-- The parts of a locale that a caller asks for, each as a text.
use Rattle.std.specs.Prelude.{◌≡◌, [], Option, Some, option_map, option_and_then, unwrap_or}
use Rattle.std.specs.FinMap.{find}
use Rattle.iloc_spec_grammar.specs.Syntax.{Text, UnicodeKey, join, word, word_cmp}
use Rattle.iloc_spec_grammar.specs.Meaning as meaning
use Rattle.iloc_spec_grammar.specs.Values.{identifier_text, text}
use Rattle.iloc_locale.specs.LocaleParents.{IsParent}
use Rattle.iloc_text_parts.specs.declared.Part.{Part}
use Rattle.iloc_text_parts.specs.declared.Part.TheVariants.{BaseName, Language, Script, Region, Variants}
use Rattle.iloc_text_parts.specs.declared.Part.TheVariants.{Keyword, Parent}

-- the value of the keyword whose key this is, in any case (UTS #35 3.2, `keyword`)
abbrev pub keyword_text : Text → meaning.Locale → Option Text
keyword_text key M = option_map join
    (option_and_then (λ k. find word_cmp k M.extensions.unicode.keywords) (word UnicodeKey key))

-- the text of the parent, if there is one
abbrev pub IsParentText : meaning.Locale → Option Text → Type 0
IsParentText M o = (parent : Option meaning.Locale) × IsParent M parent × (o ≡ option_map text parent)

-- the part of the locale as a text (UTS #35 3.1 and 3.2); a script, a region or variants that are
-- absent are an empty text
abbrev pub IsPart : Part → meaning.Locale → Option Text → Type 0
IsPart BaseName M o = o ≡ Some (identifier_text M.id)
IsPart Language M o = o ≡ Some M.id.language
IsPart Script M o = o ≡ Some (unwrap_or M.id.script [])
IsPart Region M o = o ≡ Some (unwrap_or M.id.region [])
IsPart Variants M o = o ≡ Some (join M.id.variants)
IsPart (Keyword key) M o = o ≡ keyword_text key.now M
IsPart Parent M o = IsParentText M o
