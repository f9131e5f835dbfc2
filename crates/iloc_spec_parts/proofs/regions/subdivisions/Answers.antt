-- Region and suffix are cut apart again.
use Rattle.iloc_spec_parts.proofs.SubdivisionLaws.{subdivision_back, read_is_subdivision, text_of_read}
use Rattle.iloc_spec_parts.proofs.regions.subdivisions.Goals as goal

pub returns : goal.returns
returns c = search (subdivision_back, read_is_subdivision, text_of_read)
