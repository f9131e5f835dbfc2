-- What a `DataLocale` stands for. This library's rule.
use Rattle.std.specs.Prelude.{None, codes}
use Rattle.iloc_spec_parts.specs.DataLocales as parts
use Rattle.iloc_data.specs.declared.data_locale.DataLocale.{DataLocale}

-- Its fields, as the definitions have them.
abbrev pub value_of : DataLocale → parts.DataLocale
value_of d = record {
  language = d.language;
  script = d.script;
  region = d.region;
  variant = d.variant;
  subdivision = d.subdivision;
}

-- `und`, and nothing else.
abbrev pub unknown_data : parts.DataLocale
unknown_data = parts.made_of (codes "und") None None None
