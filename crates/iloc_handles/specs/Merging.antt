-- What another locale changes.
use Rattle.iloc_spec_grammar.specs.Meaning as meaning
use Rattle.iloc_handles.specs.declared.merging.Merge.{Merge}
use Rattle.iloc_handles.specs.declared.merging.Merge.TheVariants.{Copy, ExtendUnicode}
use Rattle.iloc_handles.specs.Finding.{Changing}
use Rattle.iloc_handles.specs.Whole.{Copies, ExtendsUnicode}

abbrev pub Merges : Merge → meaning.Locale → Changing
Merges Copy M = Copies M
Merges ExtendUnicode M = ExtendsUnicode M
