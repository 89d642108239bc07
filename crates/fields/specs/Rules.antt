-- The rules by which an image is read, as the model's. Assumes nothing: these are definitions.
use Rattle.model.specs.Image as Image
use Rattle.fields.specs.declared.rules.Rules.{Rules}
use Rattle.fields.specs.declared.rules.Rules.TheVariants.{Today, Stored}

unfoldable pub rules_of : Rules → Image.Rules
rules_of Stored = Image.stored
rules_of Today = Image.today
