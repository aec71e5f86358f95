use Rattle.std.proofs.Common.{◌≡◌, ◌-◌, ◌++◌, ◌∷◌, ◌∙◌, ℕ, ℤ, Bool, List, None, [], ap, arith, drop, false, length, pos, set, subst, sym, take, true}
use Rattle.mcf_flows.specs.Blocking.{in_table}
use Rattle.mcf_flows.specs.Network.{node_count}
use Rattle.mcf_matching.specs.Private.Keeping.{IsReady}
use Rattle.mcf_matching.specs.Private.Searches.{Search, search_of}
use Rattle.mcf_matching.proofs.Beginning.{begun_ok}
use Rattle.mcf_matching.proofs.Kept.{written}
use Rattle.mcf_matching.proofs.search.Tables.begin.Goals as goal

pub returns-clause-ready : goal.returns-clause-ready
returns-clause-ready g c y =
    let s = c.args.state.now in
    let was = c.requires.idle.entries in
    let old = c.args.self.now in
    let marks = take old.marks.len (c.unmark.new.marks ++ drop (length c.unmark.new.marks) old.marks.items) in
    let count = was.settled_count in
    let lm = c.unmark.auto.marks in
    let vm = ap (λ (l : List Bool). length l) c.as_mut_slice.ensures.value in
    let same : marks ≡ c.unmark.new.marks =
    written old.marks.len c.unmark.new.marks (drop (length c.unmark.new.marks) old.marks.items) (omega (arith, old.marks.ok.0, lm, vm)) in
    let all = ap (λ (l : List Bool). length l) same in
    let count_now : length marks ≡ node_count s.net = omega (arith, all, lm, vm, count) in
    let unsettled : (v : ℕ) → in_table marks v ≡ false = subst (λ (l : List Bool). (v : ℕ) → in_table l v ≡ false) (sym same) c.unmark.ensures in
    let mid : Search = record (search_of old) { queue = c.clear.new.self.items; settled = marks } in
    let b = begun_ok s mid c.args.source c.requires.matching (record { dist_count = was.dist_count; settled_count = count_now; predecessor_count = was.predecessor_count })
    c.requires.row c.requires.free unsettled y c.clear.ensures.none in
    let made : ℤ → ℕ → ℕ → ℕ → Search = λ z i j n.
    record mid { dist = set mid.dist i z; settled = set mid.settled j true; best = None; number = n } in
    let r = c.args.source in
    let listed = c.push_reserved.ensures.items ∙ ap (λ (o : List ℕ). o ++ r ∷ []) c.clear-2.ensures.items in
    subst (λ (l : List ℕ). IsReady s y (made c.of.result c.place.result c.place-2.result c.add_one.new.self.number) r l r) (sym listed)
    (subst (λ z. IsReady s y (made z c.place.result c.place-2.result c.add_one.new.self.number) r (r ∷ []) r) (sym c.of.ensures)
    (subst (λ i. IsReady s y (made (pos 0) i c.place-2.result c.add_one.new.self.number) r (r ∷ []) r) (sym c.place.ensures)
    (subst (λ j. IsReady s y (made (pos 0) (r - 1) j c.add_one.new.self.number) r (r ∷ []) r) (sym c.place-2.ensures)
    (subst (λ n. IsReady s y (made (pos 0) (r - 1) (r - 1) n) r (r ∷ []) r) (sym c.add_one.ensures) b))))
