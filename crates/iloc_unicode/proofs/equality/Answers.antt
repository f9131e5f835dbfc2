use Rattle.iloc_word_list.specs.EqualityLaws.{words_exact}
use Rattle.iloc_unicode.specs.EqualityLaws.{fields_exact, unicode_exact}
use Rattle.iloc_unicode.specs.UnicodeValue.{value_of}
use Rattle.iloc_unicode.proofs.equality.Goals as goal

pub returns-clause-attributes : goal.returns-clause-attributes
returns-clause-attributes c v w = words_exact v w

pub returns-clause-keywords : goal.returns-clause-keywords
returns-clause-keywords c v w = fields_exact v w

pub returns-clause-unicode : goal.returns-clause-unicode
returns-clause-unicode c u v = unicode_exact (value_of u) (value_of v)
