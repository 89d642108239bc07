-- The code's marks as the model's, and how many bytes a record with its mark has. Assumes nothing: these are definitions.
use Rattle.std.proofs.Math.Option as Model
use Rattle.std.specs.Prelude.{ℕ, Option, Some, None}
use Rattle.model.specs.Image as Image
use Rattle.fields.specs.declared.mark.Mark.{Mark}
use Rattle.fields.specs.declared.mark.Mark.TheVariants.{Memory, Start, Word, Run}

abbrev pub as_mark : Option Mark → Model.Option Image.Mark
as_mark (Some Memory) = Model.some Image.ME
as_mark (Some Start) = Model.some Image.ST
as_mark (Some Word) = Model.some Image.WD
as_mark (Some Run) = Model.some Image.RN
as_mark None = Model.none

-- an unknown mark is known as such from its two bytes
abbrev pub size_of : Image.Rules → Option Mark → ℕ
size_of v (Some Memory) = 6
size_of v (Some Start) = Image.start_size v
size_of v (Some Word) = 14
size_of v (Some Run) = 6
size_of v None = 2
