-- The roster of a table, from its parts.
use Rattle.std.proofs.Common.{◌≡◌, ℕ, Bool, List, [], map, sym, ap, ap₂, ◌∙◌}
use Rattle.std.specs.Prelude.{Option, Result, Ok, Err}
use Rattle.mcf_roster.specs.RosterFaults.{made_of_lists}
use Rattle.mcf_roster.specs.Rosters.{Roster}
use Rattle.mcf_roster.specs.declared.faults.RosterFault.{RosterFault}
use Rattle.mcf_roster.specs.declared.pairs.Pair.{Pair}
use Rattle.mcf_roster.specs.declared.pairs.Range.{Range}
use Rattle.mcf_roster_reading.specs.Reading.{Entries}
use Rattle.mcf_roster_reading.specs.declared.pairs.PairEntry.{PairEntry}
use Rattle.mcf_roster_reading.specs.declared.sayings.Saying.{Saying}
use Rattle.mcf_table.specs.declared.heads.CellPlace.{CellPlace}
use Rattle.mcf_pair_tables.specs.PairAnswers.{great_in}
use Rattle.mcf_pair_tables.specs.PairCosts.{great_cells, pair_in, scale_of_pairs}
use Rattle.mcf_pair_tables.specs.PairRanges.{asks_persons, asks_things, each_of, needs_range, takes_range}
use Rattle.mcf_pair_tables.specs.PairRosters.{made_in, needs_in, takes_in}
use Rattle.mcf_pair_tables.specs.declared.options.Each.{Each}
use Rattle.mcf_pair_tables.specs.declared.options.Options.{Options}

pub made_is : (said : Entries) (options : Options) (scale : ℕ) (made : Result Roster RosterFault) (takes needs : List Range) (pairs : List Pair)
    (each : Each) (by_person by_thing : Bool) (t n : List (Option Saying)) (p : List PairEntry)
    → made ≡ made_of_lists takes needs pairs → each ≡ each_of options.each said → by_person ≡ asks_persons each → by_thing ≡ asks_things each
    → t ≡ said.takes → n ≡ said.needs → p ≡ said.pairs
    → takes ≡ map (takes_range by_person) t → needs ≡ map (needs_range by_thing) n → pairs ≡ map (pair_in options.maximise scale) p
    → made ≡ made_in scale said options
made_is said options scale made takes needs pairs each by_person by_thing t n p is each_is persons things t_is n_is p_is takes_are needs_are pairs_are =
    let taken : takes ≡ takes_in said options =
    takes_are ∙ ap₂ (λ (b : Bool) (xs : List (Option Saying)). map (takes_range b) xs) (persons ∙ ap asks_persons each_is) t_is in
    let needed : needs ≡ needs_in said options =
    needs_are ∙ ap₂ (λ (b : Bool) (xs : List (Option Saying)). map (needs_range b) xs) (things ∙ ap asks_things each_is) n_is in
    let paired : pairs ≡ map (pair_in options.maximise scale) said.pairs = pairs_are ∙ ap (map (pair_in options.maximise scale)) p_is in
    is ∙ ap (λ (xs : List Range). made_of_lists xs needs pairs) taken
    ∙ ap (λ (xs : List Range). made_of_lists (takes_in said options) xs pairs) needed
    ∙ ap (made_of_lists (takes_in said options) (needs_in said options)) paired

pub improper : (said : Entries) (options : Options) (scale : ℕ) (great : List CellPlace) (p q : List PairEntry) (made : Result Roster RosterFault) (fault : RosterFault)
    → great ≡ great_cells options.maximise scale q → great ≡ [] → scale ≡ scale_of_pairs p → p ≡ said.pairs → q ≡ said.pairs
    → made ≡ made_in scale said options → made ≡ Err fault
    → (great_in said options ≡ []) × (made_in (scale_of_pairs said.pairs) said options ≡ Err fault)
improper said options scale great p q made fault great_is none scale_is p_is q_is is err =
    let unit : scale ≡ scale_of_pairs said.pairs = scale_is ∙ ap scale_of_pairs p_is in (
      sym (ap₂ (λ (n : ℕ) (ps : List PairEntry). great_cells options.maximise n ps) unit q_is) ∙ sym great_is ∙ none,
      sym (ap (λ (n : ℕ). made_in n said options) unit) ∙ sym is ∙ err,
    )

pub proper : (said : Entries) (options : Options) (scale : ℕ) (great : List CellPlace) (p q : List PairEntry) (made : Result Roster RosterFault) (R : Roster)
    → great ≡ great_cells options.maximise scale q → great ≡ [] → scale ≡ scale_of_pairs p → p ≡ said.pairs → q ≡ said.pairs
    → made ≡ made_in scale said options → made ≡ Ok R
    → (great_in said options ≡ []) × (made_in (scale_of_pairs said.pairs) said options ≡ Ok R)
proper said options scale great p q made R great_is none scale_is p_is q_is is ok =
    let unit : scale ≡ scale_of_pairs said.pairs = scale_is ∙ ap scale_of_pairs p_is in (
      sym (ap₂ (λ (n : ℕ) (ps : List PairEntry). great_cells options.maximise n ps) unit q_is) ∙ sym great_is ∙ none,
      sym (ap (λ (n : ℕ). made_in n said options) unit) ∙ sym is ∙ ok,
    )
