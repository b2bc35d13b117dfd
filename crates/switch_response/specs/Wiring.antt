-- The network that a subcircuit's cards make: which nodes it has, in which order, and what its transistors are.
use Rattle.std.specs.Prelude.{◌≡◌, ℕ, ◌≤◌, ◌&&◌, Bool, true, false, List, [], ◌∷◌, ◌++◌, map, find, length, replicate, Option, Some, None, is_none, IsSomeAnd, slice_get, if◌then◌else◌}
use Rattle.std.specs.List.{list_any}
use Rattle.std.specs.Option.{option_map, option_map_or}
use Rattle.std.specs.Str.{bytes_eq}
use Rattle.tern_core.specs.declared.tern.Tern.{Tern}
use Rattle.tern_core.specs.declared.tern.Tern.TheVariants.{Zero, One, Unknown}
use Rattle.text_scan.specs.declared.pins.PinKind.{PinKind}
use Rattle.text_scan.specs.declared.pins.PinKind.TheVariants.{Signal, Power, Ground}
use Rattle.circuit.specs.declared.netlist.Subcircuit.{Subcircuit}
use Rattle.circuit.specs.declared.netlist.Transistor.{Transistor as Card}
use Rattle.circuit.specs.declared.tech.ModelCard.{ModelCard}
use Rattle.circuit.specs.declared.tech.Size.{Size}
use Rattle.circuit.specs.declared.tech.Supply.{Supply}
use Rattle.circuit.specs.declared.tech.Tech.{Tech}
use Rattle.switch_response.specs.declared.transistor.Channel.{Channel}
use Rattle.switch_response.specs.declared.transistor.Channel.TheVariants.{N, P}
use Rattle.switch_response.specs.declared.transistor.Transistor.{Transistor}
use Rattle.switch_response.specs.Network.{Network}

-- Names

abbrev pub pin_names : Subcircuit → List (List ℕ)
pin_names part = map (λ p. p.0) part.pins

abbrev pub names_on : Card → List (List ℕ)
names_on card = card.drain ∷ card.gate ∷ card.source ∷ []

-- drain, gate and source of each card
abbrev pub card_names : List Card → List (List ℕ)
card_names [] = []
card_names (card ∷ cards) = names_on card ++ card_names cards

-- the input nodes: input pins, then supplies
abbrev pub input_nodes : List (List ℕ) → List Supply → List (List ℕ)
input_nodes inputs supplies = inputs ++ map (λ s. s.name) supplies

-- each name of a list at its first appearance, but for those that stand before it
abbrev pub firsts : List (List ℕ) → List (List ℕ) → List (List ℕ)
firsts before [] = []
firsts before (x ∷ xs) = if list_any (bytes_eq x) before then firsts before xs else (x ∷ firsts (before ++ x ∷ []) xs)

-- Storage nodes are the pins in their order, then the other nodes by first appearance. Input nodes are none of them.
abbrev pub storage_nodes : Subcircuit → List (List ℕ) → List Supply → List (List ℕ)
storage_nodes part inputs supplies = firsts (input_nodes inputs supplies) (pin_names part ++ card_names part.transistors)

-- Strengths and channels

-- the first model of this name
abbrev pub model_of : List ModelCard → List ℕ → Option ModelCard
model_of models name = find (λ m. bytes_eq name m.name) models

abbrev pub channel_of : Bool → Channel
channel_of true = P
channel_of false = N

-- a node's size in the cell, where the technology names one, else 1
abbrev pub size_of : List Size → List ℕ → List ℕ → ℕ
size_of sizes cell node = option_map_or (λ z. z.strength) (find (λ z. bytes_eq cell z.cell && bytes_eq node z.node) sizes) 1

abbrev pub supply_value : PinKind → Tern
supply_value Power = One
supply_value Ground = Zero
supply_value Signal = Unknown

-- The network

-- the network's transistor that stands for a card
pub record StandsFor (models : List ModelCard) (nodes : List (List ℕ)) (card : Card) (t : Transistor) : Type 0 where
  pub drain : slice_get nodes t.drain ≡ Some card.drain
  pub gate : slice_get nodes t.gate ≡ Some card.gate
  pub source : slice_get nodes t.source ≡ Some card.source
  pub model : IsSomeAnd (model_of models card.model) (λ m. (t.channel ≡ channel_of m.p) × (t.strength ≡ m.strength))

-- one transistor for each card, in their order
abbrev pub AllStandFor : List ModelCard → List (List ℕ) → List Card → List Transistor → Type 0
AllStandFor models nodes [] [] = Unit {0}
AllStandFor models nodes (card ∷ cards) (t ∷ ts) = StandsFor models nodes card t × AllStandFor models nodes cards ts
AllStandFor models nodes [] (t ∷ ts) = ⊥
AllStandFor models nodes (card ∷ cards) [] = ⊥

pub record IsNetworkOf (part : Subcircuit) (tech : Tech) (supplies : List Supply) (inputs : List (List ℕ)) (w : Network) : Type 0 where
  pub names : w.names ≡ storage_nodes part inputs supplies
  pub storage : w.net.storage ≡ length w.names
  pub pins : w.pins ≡ length inputs
  pub supply_values : w.supplies ≡ map (λ s. supply_value s.kind) supplies
  pub strengths : w.net.strengths ≡ map (size_of tech.sizes part.name) w.names ++ replicate (length (input_nodes inputs supplies)) 8
  pub transistors : AllStandFor tech.models (w.names ++ input_nodes inputs supplies) part.transistors w.net.transistors

-- Refusals

-- the first name that stands again after its place
abbrev pub first_double : List (List ℕ) → Option (List ℕ)
first_double [] = None
first_double (x ∷ xs) = if list_any (bytes_eq x) xs then Some x else first_double xs

-- the first card's model that the technology lacks
abbrev pub first_unknown : List ModelCard → List Card → Option (List ℕ)
first_unknown models cards = option_map (λ c. c.model) (find (λ c. is_none (model_of models c.model)) cards)

-- the greatest number of storage nodes
abbrev pub most_nodes : ℕ
most_nodes = 512

-- nothing refuses the subcircuit
pub record IsAccepted (part : Subcircuit) (tech : Tech) (supplies : List Supply) (inputs : List (List ℕ)) : Type 0 where
  pub pins : first_double (pin_names part) ≡ None
  pub models : first_unknown tech.models part.transistors ≡ None
  pub nodes : length (storage_nodes part inputs supplies) ≤ most_nodes
