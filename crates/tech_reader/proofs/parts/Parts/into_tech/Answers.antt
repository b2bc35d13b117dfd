use Rattle.std.proofs.Common.{refl}
use Rattle.tech_reader.specs.Tech.{tech_of}
use Rattle.tech_reader.proofs.parts.Parts.into_tech.Goals as goal

pub returns : goal.returns
unfolding tech_of
returns c = λ rows h. rw (h.models, h.sizes, h.supplies) refl
