-- The memory is read for the check, and comes back. A new table keeps the loan; at a refusal the loan ends as it is.
use Rattle.std.proofs.Common.{◌≡◌, ◌/◌, [], ◌∷◌, length, replicate, refl, sym, ap, ◌∙◌, subst, lit<, w32, w64}
use Rattle.std.proofs.raw_atomic.Walks.{proved}
use Rattle.std.proofs.VecSteps.Shapes.{after, head, arm_body}
use Rattle.std.proofs.RcSteps.{Good, first_Good, some_Good}
use Rattle.std.proofs.ResultValues.{ok_of, err_of}
use Rattle.std.specs.Prelude.{Ok, Err}
use Rattle.std.specs.contracts.result.Result as RS
use base.Fraction.{full_share}
use base.Logic.{id⊢, emp}
use base.Fml.{ftrue, flft, fres}
use base.Stored.{coded_list}
use contract.Monad.{fact, fact_i}
use contract.Running.{tables}
use mir.Syntax.{named}
use mir.Val.{Val, vcons, vnil}
use prog.Wp.{Wp, after_seq, at_return}
use types.Kit.{‵, raw, ◌⊛◌, some, later, prop, at_ret, any_q, Sq, Post, ◌$◌, ◌∵◌, !, qed, done, move, keep, drop, use0, use1, use2, split, join, pick, await, suffices, frame, group}
use types.Part.{whole, sub, agg}
use types.Run.{enter, of_opd, lit, addr, stop, from, fld, hop, no_more, and_then, first, switches_on, exec, returns}
use types.Match.{live, vrt, in_variant}
use types.ByLocal.{alloc_all, pass_all, free_all, look_at, look_in_at, get, get_in, get_tag, sets, sets_last, lands_as, env}
use types.Tokens.{lft_new, lft_end}
use borrow.Table.Copies.{c_rf}
use borrow.Table.Referent.{f_int, laws_f}
use denote.Builtin.{u32, usize}
use denote.Exit.{yes, no}
use denote.Laws.{Is, shows}
use denote.Param.{layout}
use denote.Plain.{uint_vals, uint_Tells, uint_Makes}
use denote.RattleType.{RattleType}
use denote.Ref.{as_bor}
use denote.Signature.{plain, named_lft}
use denote.Slice.{MutSlice, ShrSlice, mut_slice_vals, mut_slice_Tells, shr_slice_vals}
use denote.Steps.{nothing, only, owned, heard, peeks, facts}
use denote.Triple.Call.{calls_at}
use denote.Triple.Clauses.{lasts}
use denote.Triple.Spec.{triple_of}
use denote.Triple.Table.{framed}
use denote.Triple.Walked.{Stays, walk_of, says, stay_dropped, Goes-dropped, Goes-spent_slice, ends_at}
use Rattle.graph.specs.Stores.{Opened, empty_store}
use Rattle.graph.specs.declared.opening.OpeningRefusal.{OpeningRefusal}
use Rattle.edges.specs.Table.{table_opening, table_meaning, NewTable}
use Rattle.edges.specs.contracts.edge_table.EdgeTable as table
use Rattle.edges.proofs.edge_table.EdgeTable.TheLaws as table_laws
use Rattle.edges.specs.contracts.edge_table.EdgeTable.check as g
use Rattle.edges.proofs.edge_table.EdgeTable.check.Met.{met as checks}
use Rattle.edges.specs.contracts.edge_table.EdgeTable.granted as h
use Rattle.edges.proofs.edge_table.EdgeTable.granted.Met.{met as opens}
use Rattle.edges.specs.contracts.edge_table.EdgeTable.try_open as f
use Rattle.edges.proofs.edge_table.EdgeTable.try_open.Statement.{statement}
use Rattle.edges.proofs.edge_table.EdgeTable.try_open.Code as code
use Rattle.graph.proofs.Lending.{Kept, is_read, comes_back, is_given_up, Rests, rests_with, rests_refused}
use Rattle.graph.proofs.Refusals.{Refusal, word, word_good, word_is, word_makes, Answer, answer, answer_tells, by_answer}

abbrev stayed : Stays f.ended.signature.params f.ended.kept
stayed = (stay_dropped _ yes, (stay_dropped _ no, tt))

pub try_open_spec : {M : Type 1} → statement M
try_open_spec 𝓤 𝓛 𝓜 𝓡 wired =
    let c = f.clauses 𝓛 𝓜.mem 𝓡.returns in let W = walk_of 𝓛 f.ended stayed c in let 𝓣 = tables 𝓤 𝓛.H 𝓜 𝓡 𝓡.env in
    let run = framed 𝓤 𝓛.H 𝓜 𝓣 in let body = (code.function).body in
    proved 𝓛 f.ended stayed c 𝓜 𝓡 (Goes-dropped 𝓛 1 (plain (λ _. usize)) yes (λ κs x w. refl), (Goes-spent_slice 𝓛 1 (0 ∷ []) tt (plain (λ _. u32)), tt))
    f.Key.name code.function (code.unfolded 𝓤 𝓛.H 𝓜 𝓡 wired)
    (λ κs. (uint_vals w64, (mut_slice_vals, tt))) (λ κs. (uint_Tells w64, (mut_slice_Tells (named 0) κs.0 u32, tt))) (λ κs qs bounds a _ are.
    let κ = κs.0 in let q = qs.0 in let n = a.0 in let m = a.1.0 in let fits = are.0.1 in let room = are.1.0.0.1 in
    let Memory = (MutSlice (named 0) κ u32).own_val m (mut_slice_vals m) in
    let Table : RattleType = table.the_row (named_lft 1 0 tt κs) in
    let Out : RattleType = RS.the_row Table Refusal in
    let opening = table_opening n (length m.now) in
    let NewStore = λ (t : Table.Denot). NewTable n m.now m.ghost_name t.n t.words.now t.words.ghost_name in
    let Resting = Rests 𝓛 u32 (λ (t : Table.Denot). t.words.ghost_name) m in
    let y : W.Ghost = ((κs, qs, bounds, a, (uint_vals w64 n, (mut_slice_vals m, tt))), tt) in
    let out : (r : Out.Denot) (v : Val) → Opened NewStore opening r → Sq 𝓛 (‵ (Out.own_val r (v ∷ [])) ∷ ‵ (flft κ q) ∷ raw (Resting r) ∷ []) (prop (W.post y v)) = λ r v said.
    suffices ! _ (ends_at 𝓛 f.ended stayed c y v r (tt, (tt, tt)) (tt, (tt, tt))) $
    nothing ! $ nothing ! $ join ! $ nothing ! $ join ! $ move ! (2 ∷ []) $ nothing ! $ move ! (1 ∷ 0 ∷ []) $ join ! $ group ! 3 $ frame ! $ says ! said $ done ! in
    qed 𝓛 (((‵ (flft κ q) ⊛ ‵ ftrue) ⊛ (‵ (usize.own_val n (uint_vals w64 n)) ⊛ ‵ Memory ⊛ ‵ ftrue)) ∷ ‵ ftrue ∷ []) ∵
    split ! $ split ! $ move ! (2 ∷ []) $ split ! $ drop ! $ split ! $ keep ! (0 ∷ 2 ∷ []) $
    enter ! _ _ _ _ _ $ alloc_all ! (λ l. pass_all ! refl ((tt, record { fits = fits }), ((tt, (tt, (record { fits = room.0 }, tt))), tt)) $
    let En = env (code.function).locals l in
    let Then : Post 𝓤 𝓛.H = any_q (after_seq 𝓤 𝓛.H (Wp 𝓤 𝓛.H 𝓣.C 𝓣.Λ En (after 4 body) (at_return 𝓤 𝓛.H En (W.post y))) (at_return 𝓤 𝓛.H En (W.post y))) in
    -- [the memory; the token of its loan]
    sets ! (addr ! (from ! (fld ! refl (hop ! (look_in_at ! 2 (sub ! 0 refl (whole !))) (stop !))))) refl (tt, tt) $
    sets ! (agg ! (and_then ! (get ! refl) (and_then ! (get_in ! (fld ! refl (stop !)) (sub ! 1 refl (whole !))) (no_more !)))) refl (tt, (tt, (record { fits = room.0 }, tt))) $
    lft_new ! tt (λ α. move ! (1 ∷ 2 ∷ []) $
    use2 𝓛 (later (‵ ((ShrSlice (named 0) (α ∷ []) u32).own_val (as_bor m) (shr_slice_vals (as_bor m))) ⊛ raw (Kept 𝓛 u32 κ q α m))) (is_read 𝓛 u32 κ q α m (laws_f (f_int w32)) (c_rf (f_int w32))) $ await ! tt $ split ! $
    let G = triple_of 𝓛 g.signature (g.spec 𝓛 𝓜.mem 𝓡.returns) in
    let z : G.Ghost = (((α ∷ [], tt), (full_share, tt), tt, (n, (as_bor m, tt)), (uint_vals w64 n, (shr_slice_vals (as_bor m), tt))), tt) in
    -- [the memory as it is read; what is kept of it; the token of the reading]
    nothing ! $ move ! (1 ∷ 0 ∷ []) $ join ! $ owned ! usize _ (uint_Makes 𝓛 w64) n _ (refl, fits) $ join ! $ nothing ! $ move ! (3 ∷ 0 ∷ []) $ join ! $ join ! $
    nothing ! $ move ! (1 ∷ 0 ∷ []) $ use2 𝓛 (raw (G.pre z)) (id⊢ 𝓤 _) $
    calls_at ! run G (checks 𝓤 𝓛 𝓜 𝓡 (code.calls-edges::edge_table::EdgeTable::check 𝓡.env wired)) z (and_then ! (get ! refl) (and_then ! (get ! refl) (no_more !))) (λ v.
    use1 𝓛 (later (some (λ (r : Answer.Denot). ((‵ (flft (α ∷ []) full_share) ⊛ ‵ ftrue) ⊛ ‵ (Answer.own_val r (v ∷ []))) ⊛
    some (λ (ws : Unit {0} × (Unit {0} × Unit {0})). ‵ (lasts g.ended z.0.0 z.0.3 ws) ⊛ raw (fact 𝓤 (r ≡ opening)))))) (id⊢ 𝓤 _) $
    await ! tt $ pick ! (λ r. split ! $ split ! $ split ! $ lft_end ! tt $ move ! (3 ∷ []) $ pick ! (λ ws. split ! $ drop ! $ heard ! _ (λ is_opening.
    -- [the reading is over; nothing; the answer; what is kept of the memory]
    move ! (0 ∷ 3 ∷ []) $ use2 𝓛 (later (‵ Memory ⊛ ‵ (flft κ q))) (comes_back 𝓛 u32 κ q α m) $ await ! tt $ split ! $ move ! (3 ∷ []) $
    facts ! Answer _ (shows 𝓛 Answer) r (v ∷ []) (λ is. let told : v ≡ answer r = ap only (answer_tells r (v ∷ []) is) in
    -- [the memory; the token of its loan; nothing]
    by_answer r
    (λ granted.
    lands_as ! (told ∙ ap answer granted) refl (tt, (record { fits = lit< tt }, (tt, tt))) $
    first ! $ switches_on ! (get_tag ! (vrt ! refl (fld ! refl (stop !))) (whole !)) $ exec ! 𝓣.C 𝓣.Λ En (arm_body 0 (head (after 3 body))) Then $
    sets ! (addr ! (from ! (fld ! refl (hop ! (look_in_at ! 2 (sub ! 0 refl (whole !))) (stop !))))) refl (tt, tt) $
    sets ! (agg ! (and_then ! (get ! refl) (and_then ! (get_in ! (fld ! refl (stop !)) (sub ! 1 refl (whole !))) (no_more !)))) refl (tt, (tt, (record { fits = room.0 }, tt))) $
    let Open = triple_of 𝓛 h.signature (h.spec 𝓛 𝓜.mem 𝓡.returns) in
    let x : Open.Ghost = ((κs, qs, tt, a, (uint_vals w64 n, (mut_slice_vals m, tt))), tt) in
    nothing ! $ move ! (1 ∷ 0 ∷ []) $ join ! $ owned ! usize _ (uint_Makes 𝓛 w64) n _ (refl, fits) $ join ! $ nothing ! $ move ! (2 ∷ 0 ∷ []) $ join ! $ join ! $
    use0 𝓛 (raw (fact 𝓤 (opening ≡ Ok tt))) (fact_i 𝓤 _ (emp 𝓤) (sym is_opening ∙ granted)) $ move ! (1 ∷ 0 ∷ []) $ use2 𝓛 (raw (Open.pre x)) (id⊢ 𝓤 _) $
    calls_at ! run Open (opens 𝓤 𝓛 𝓜 𝓡 (code.calls-edges::edge_table::EdgeTable::granted 𝓡.env wired)) x (and_then ! (get ! refl) (and_then ! (get ! refl) (no_more !))) (λ u.
    use1 𝓛 (later (some (λ (t : Table.Denot). ((‵ (flft κ q) ⊛ ‵ ftrue) ⊛ ‵ (Table.own_val t (u ∷ []))) ⊛
    some (λ (ws : Unit {0} × (Unit {0} × Unit {0})). ‵ (lasts h.ended x.0.0 x.0.3 ws) ⊛ raw (fact 𝓤 (t.n ≡ n)) ⊛ raw (fact 𝓤 (t.words.now ≡ replicate (length m.now) 0)) ⊛ raw (fact 𝓤 (t.words.ghost_name ≡ m.ghost_name)) ⊛
    raw (fact 𝓤 (table_meaning t.n t.words.now ≡ empty_store n (length m.now / 2))))))) (id⊢ 𝓤 _) $
    await ! tt $ pick ! (λ t. split ! $ split ! $ split ! $ move ! (3 ∷ []) $ pick ! (λ ws. split ! $ drop ! $ split ! $ heard ! _ (λ size. split ! $ heard ! _ (λ words. split ! $ heard ! _ (λ same. heard ! _ (λ empty.
    -- [the token of the loan; nothing; the table]
    move ! (2 ∷ []) $ peeks ! Table _ (shows 𝓛 Table) t (u ∷ []) (λ is_table.
    let good : Good (layout Table) u = (((table_laws.the_row_laws (named_lft 1 0 tt κs)).lawful 𝓛).typed t (u ∷ []) is_table).0 in
    lands_as ! refl refl good $ sets_last ! (agg ! (and_then ! (lit ! tt) (and_then ! (get ! refl) (no_more !)))) refl (first_Good (layout Table) u good) $
    exec ! 𝓣.C 𝓣.Λ En (after 4 body) (at_ret En (W.post y)) $ sets ! (of_opd ! (get ! refl)) refl (first_Good (layout Table) u good) $
    use1 𝓛 (‵ (Out.own_val (Ok t) (live 0 (vcons u vnil) ∷ []))) (ok_of 𝓛 Table Refusal t u) $
    use0 𝓛 (raw (Resting (Ok t))) (rests_with 𝓛 u32 (λ (t : Table.Denot). t.words.ghost_name) m OpeningRefusal t same) $
    returns ! (look_at ! 0 refl) $ free_all ! refl $ keep ! (1 ∷ 2 ∷ 0 ∷ []) $
    out (Ok t) (live 0 (vcons u vnil)) (subst (λ (o : Answer.Denot). Opened NewStore o (Ok t)) (sym granted ∙ is_opening) (size, words, same, empty)))))))))))
    (λ e refused.
    lands_as ! (told ∙ ap answer refused) refl (some_Good (layout Refusal) (word e) (word_good e)) $
    first ! $ switches_on ! (get_tag ! (vrt ! refl (fld ! refl (stop !))) (whole !)) $ exec ! 𝓣.C 𝓣.Λ En (arm_body 1 (head (after 3 body))) Then $
    sets ! (of_opd ! (get_in ! (vrt ! refl (fld ! refl (stop !))) (in_variant ! 1 0 refl refl (whole !)))) refl (word_good e) $
    sets_last ! (agg ! (and_then ! (lit ! tt) (and_then ! (get ! refl) (no_more !)))) refl (some_Good (layout Refusal) (word e) (word_good e)) $
    exec ! 𝓣.C 𝓣.Λ En (after 4 body) (at_ret En (W.post y)) $ sets ! (of_opd ! (get ! refl)) refl (some_Good (layout Refusal) (word e) (word_good e)) $
    use1 𝓛 (later (‵ (fres m.ghost_name ((coded_list u32.coded).code m.now)))) (is_given_up 𝓛 u32 κ q 0 m) $ await ! tt $
    use1 𝓛 (raw (Resting (Err e))) (rests_refused 𝓛 u32 (λ (t : Table.Denot). t.words.ghost_name) m e) $
    owned ! Refusal (Is Refusal) (word_makes 𝓛) e (word e ∷ []) (word_is e) $
    use1 𝓛 (‵ (Out.own_val (Err e) (live 1 (vcons (word e) vnil) ∷ []))) (err_of 𝓛 Table Refusal e (word e)) $
    returns ! (look_at ! 0 refl) $ free_all ! refl $ keep ! (0 ∷ 2 ∷ 1 ∷ []) $
    out (Err e) (live 1 (vcons (word e) vnil)) (subst (λ (o : Answer.Denot). Opened NewStore o (Err e)) (sym refused ∙ is_opening) refl))))))))))
