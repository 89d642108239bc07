-- The number of each question that refuses an image. Assumes nothing: these are definitions.
use Rattle.std.specs.Prelude.{ℕ}
use Rattle.questions.specs.Numbers.{start_number}
use Rattle.loading.specs.Numbers.{load_number}
use Rattle.image.specs.declared.error.ImageError.{ImageError}

abbrev pub image_number : ImageError → ℕ
image_number (ImageError.Load error) = load_number error
image_number (ImageError.Start error) = start_number error
