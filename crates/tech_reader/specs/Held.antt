-- What is held of the records that were read.
use Rattle.std.specs.Prelude.{◌≡◌, ◌++◌, ◌∷◌, [], ℕ, List, map, filter_map}
use Rattle.tech_reader.specs.Row.{items_of}
use Rattle.tech_reader.specs.Tech.{key, model_of, size_of, supply_of}
use Rattle.tech_reader.specs.declared.parts.Parts.{Parts}

-- the parts are those of these records
pub record Holds (parts : Parts) (rows : List (List (List ℕ))) : Type 0 where
  pub models : parts.models ≡ filter_map model_of rows
  pub sizes : parts.sizes ≡ filter_map size_of rows
  pub supplies : parts.supplies ≡ filter_map supply_of rows
  pub names : parts.names ≡ map key rows

-- what a record and its key add to the parts
pub record Kept (old : Parts) (new : Parts) (row : List (List ℕ)) (name : List ℕ) : Type 0 where
  pub models : new.models ≡ old.models ++ items_of (model_of row)
  pub sizes : new.sizes ≡ old.sizes ++ items_of (size_of row)
  pub supplies : new.supplies ≡ old.supplies ++ items_of (supply_of row)
  pub names : new.names ≡ old.names ++ name ∷ []
