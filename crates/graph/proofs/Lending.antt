-- A walk by hand over memory that was lent as a `&mut [T]`: it is read through a `&`, comes back, and the answer keeps the loan or it ends as it is. Assumes `Logic`.
use Rattle.std.proofs.Common.{◌≡◌, ℕ, List, [], ◌∷◌, refl, sym, subst, MutBor}
use Rattle.std.specs.Prelude.{Result, Ok, Err, OnOk, OnErr}
use Rattle.std.specs.Borrow.{RattleType, GName, Share, RestsIfErr, Array}
use mathlib.Core.Option as maybe
use seplogic.Ra.Ura.{Ura}
use mir.Syntax.{named}
use mir.Val.{Val}
use base.Logic.{SProp, ent, sep, emp, id⊢, wand, via, ex_i}
use base.Fml.{Fml, Lft, fres, fobs, fauth, flft, fdead, fsep, feq, fex}
use base.Stored.{Gv, coded_list}
use types.Logic.{Logic, sem}
use types.Kit.{‵, raw, ◌⊛◌, later, mean, ◌$◌, ◌∵◌, !, qed, move, keep, drop, use0, use2, use3, split, fsplit, fsplit3, fjoin, fpack, feq_i, rewrite, await, updating, now, done, each, assume}
use types.Tokens.{name_done}
use denote.RattleType.{RowLaws}
use denote.Follow.{such_by, follows_by, follows, follows_so}
use denote.FollowSlice.{heres_id}
use denote.Ref.{as_bor}
use denote.Slice.{MutSlice, ShrSlice, mut_slice_vals, shr_slice_vals}
use borrow.Table.Copies.{Cp}
use borrow.Table.Own.{own_s}
use borrow.Table.Owned as bare
use borrow.Rule.SharedLend.{each_copy}
use borrow.Rule.Slice.Reshare.{kept_s, sl_reshare_as, sl_reshare_back}

module _ {M : Type 1} {𝓤 : Ura M} (𝓛 : Logic 𝓤) (R : RattleType) where
  open 𝓛 use {H, A}

  -- what is kept of the memory while it is read
  abbrev pub Kept : Lft → Share → ℕ → MutBor (List R.Denot) → SProp 𝓤
  Kept κ q α m = mean 𝓛 (kept_s 𝓛 R κ q (α ∷ []) m.ghost_name m.now m.ref_ptr.0 m.ref_ptr.1)

  module _ (κ : Lft) (q : Share) (α : ℕ) (m : MutBor (List R.Denot)) where
    abbrev Whole : SProp 𝓤
    Whole = sem 𝓛 ((MutSlice (named 0) κ R).own_val m (mut_slice_vals m))

    abbrev Seen : SProp 𝓤
    Seen = sem 𝓛 ((ShrSlice (named 0) (α ∷ []) R).own_val (as_bor m) (shr_slice_vals (as_bor m)))

    pub is_read : RowLaws R → Cp R → ent 𝓤 (sep 𝓤 Whole (A.lft κ q)) (H.⇛ (sep 𝓤 Seen (Kept κ q α m)))
    unfolding own_s
    is_read laws copies =
        qed 𝓛 (‵ ((MutSlice (named 0) κ R).own_val m (mut_slice_vals m)) ∷ ‵ (flft κ q) ∷ []) ∵ updating ! $
        fsplit ! $ fsplit ! $ drop ! $ fjoin ! $ use0 𝓛 (raw (own_s 𝓛 (0, (α ∷ []) ∷ []) [])) (id⊢ 𝓤 (emp 𝓤)) $ move ! (1 ∷ 2 ∷ 0 ∷ []) $
        use3 𝓛 (later (‵ ((bare.ShrSlice (named 0) (α ∷ []) R).own_val (as_bor m)) ⊛ (raw (Kept κ q α m) ⊛ raw (own_s 𝓛 (0, (α ∷ []) ∷ []) []))))
        (sl_reshare_as 𝓛 R κ q (α ∷ []) m.ref_ptr.0 m.ref_ptr.1 m.ghost_name (own_s 𝓛 (0, (α ∷ []) ∷ []) []) (λ ys. each_copy 𝓛 (λ _. Unit {0}) [] R laws 0 copies (0, (α ∷ []) ∷ []) tt ys m.ref_ptr.0 m.ref_ptr.1) m.now) $
        await ! tt $ split ! $ move ! (1 ∷ []) $ split ! $ move ! (2 ∷ 0 ∷ []) $ fsplit ! $ feq_i ! (List Val) (shr_slice_vals (as_bor m)) (shr_slice_vals (as_bor m)) refl $ fjoin ! $ fjoin ! $
        now ! $ keep ! (0 ∷ 1 ∷ []) $ done !

    pub comes_back : ent 𝓤 (sep 𝓤 (A.dead (α ∷ [])) (Kept κ q α m)) (H.⇛ (sep 𝓤 Whole (A.lft κ q)))
    comes_back =
        qed 𝓛 (‵ (fdead (α ∷ [])) ∷ raw (Kept κ q α m) ∷ []) ∵ updating ! $
        use2 𝓛 (later (‵ ((bare.MutSlice (named 0) κ R).own_val m) ⊛ ‵ (flft κ q))) (sl_reshare_back 𝓛 R κ q (α ∷ []) m.ref_ptr.0 m.ref_ptr.1 m.ghost_name m.now) $
        await ! tt $ split ! $ fsplit ! $ feq_i ! (List Val) (mut_slice_vals m) (mut_slice_vals m) refl $ fjoin ! $ fjoin ! $ now ! $ done !

    pub is_given_up : ent 𝓤 Whole (H.⇛ (A.res m.ghost_name ((coded_list R.coded).code m.now)))
    is_given_up =
        qed 𝓛 (‵ ((MutSlice (named 0) κ R).own_val m (mut_slice_vals m)) ∷ []) ∵ updating ! $ fsplit3 ! $ drop ! $
        rewrite ! 0 (λ (l : List R.Denot). ‵ (fobs m.ghost_name ((coded_list R.coded).code l))) (heres_id R m.now) refl $ name_done ! tt $ now ! $ keep ! (0 ∷ []) $ done !

  module _ (γ : GName) where
    abbrev code : List R.Denot → Gv
    code = (coded_list R.coded).code

    -- a loan follows itself
    abbrev Itself : SProp 𝓤
    Itself = sem 𝓛 (follows (Array R 0) (Array R 0) γ γ (λ last. last))

    follows_itself : ent 𝓤 (emp 𝓤) Itself
    follows_itself =
        let From : List R.Denot → List R.Denot → Fml = λ z w. fsep (feq (List R.Denot) z w) (fauth γ (code w)) in
        let said = qed 𝓛 [] ∵ each ! (λ (w : List R.Denot). wand 𝓤 (A.res γ (code w)) (A.res γ (code w))) (λ w. assume ! (‵ (fres γ (code w))) $ done !) in
        let back = qed 𝓛 [] ∵ each ! (λ (z : List R.Denot). wand 𝓤 (A.auth γ (code z)) (sem 𝓛 (fex (List R.Denot) (From z)))) (λ z. assume ! (‵ (fauth γ (code z))) $
        feq_i ! (List R.Denot) z z refl $ fjoin ! $ fpack ! (List R.Denot) (From z) z $ done !) in
        record { apply = λ a p. (said.apply a p, back.apply a p) }

  module _ {S : Type 0} (name : S → GName) (m : MutBor (List R.Denot)) where
    abbrev pub Rests : {E : Type 0} → Result S E → SProp 𝓤
    Rests r = sem 𝓛 (RestsIfErr (Array R 0) m name r (λ last. last ≡ m.now))

    abbrev Witness : {E : Type 0} → Result S E → Type 0
    Witness r = (p : (List R.Denot → List R.Denot) × List R.Denot) × ((w : List R.Denot) → OnOk r (p.0 w ≡ w)) × OnErr r (p.1 ≡ m.now)

    pub rests_with : (E : Type 0) (s : S) → name s ≡ m.ghost_name → ent 𝓤 (emp 𝓤) (Rests {E = E} (Ok s))
    unfolding such_by follows_by
    rests_with E s same =
        subst (λ (γ : GName). ent 𝓤 (emp 𝓤) (sem 𝓛 (follows_so (Array R 0) (Array R 0) m.ghost_name (maybe.some γ) (λ x n. n ≡ x) (λ n. Unit {0})))) (sym same)
        (via 𝓤 (Itself m.ghost_name) (follows_itself m.ghost_name)
        (ex_i 𝓤 (λ (y : Witness {E = E} (Ok s)). sem 𝓛 (follows (Array R 0) (Array R 0) m.ghost_name m.ghost_name y.0.0)) ((λ last. last, m.now), (λ w. refl), tt)))

    pub rests_refused : {E : Type 0} (e : E) → ent 𝓤 (A.res m.ghost_name ((coded_list R.coded).code m.now)) (Rests (Err e))
    unfolding such_by follows_by
    rests_refused e =
        ex_i 𝓤 (λ (y : Witness (Err e)). A.res m.ghost_name ((coded_list R.coded).code y.0.1)) ((λ last. last, m.now), (λ w. tt), refl)
