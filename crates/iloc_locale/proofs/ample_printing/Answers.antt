-- memory that refuses nothing prints each value
use Rattle.std.proofs.Common.{◌≡◌, length}
use Rattle.std.specs.Cow.{cow_str_bytes}
use Rattle.iloc_extensions.proofs.RoomLemmas.{always_made}
use Rattle.iloc_locale.proofs.ample_printing.Goals as goal

pub returns : goal.returns
returns g c =
    let text = g.W.Writeable.text c.args.value.now in
    always_made g.M.Memory.refused g.met.M.Ample.never (length text) (λ t. cow_str_bytes t ≡ text)
    c.write_to_string_in.result c.write_to_string_in.ensures.text c.write_to_string_in.ensures.out_of_memory
