-- A log whose events tell what was done to the graph, and what holds after a work that may be refused.
use Rattle.std.specs.Prelude.{◌≡◌, List}
use Rattle.model.specs.Graph.{Sound}
use Rattle.model.specs.Configuration.{Config}
use Rattle.model.specs.Deletion.{graph}
use Rattle.model.specs.Events.{Event, changes, AllFit, all_made, all_gone}
use Rattle.model.specs.Log.{Log, Answer, Outcome, refused, accepted}

-- the events tell what was done to the graph of c
pub record Faithful (c : Config) (L : Log) : Type 0 where
  pub fits : AllFit (graph c) L.events
  pub turns : graph L.config ≡ changes (graph c) L.events
  pub gone_is : L.gone ≡ all_gone (graph c) L.events

-- the answer of a call to c, with the events of its work: what demand 3 asks of each call
pub record Emits (c : Config) (a : Answer) (es : List Event) : Type 0 where
  pub stays : Sound (graph a.config)
  pub fits : AllFit (graph c) es
  pub turns : graph a.config ≡ changes (graph c) es
  pub made_is : a.made ≡ all_made es
  pub gone_is : a.gone ≡ all_gone (graph c) es

-- P holds of the work, if it was not refused
unfoldable pub After : (Log → Type 0) → Outcome → Type 0
After P (refused n) = Unit {0}
After P (accepted L) = P L
