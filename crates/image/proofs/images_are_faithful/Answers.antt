use Rattle.image.proofs.Faithful.{sound-image, one-plan}
use Rattle.image.proofs.Spelling.{image-length}
use Rattle.image.proofs.images_are_faithful.Goals as goal

pub returns : goal.returns
returns c = record { sound = sound-image; single = one-plan; lengths = image-length }
