-- What is read as an item is spelled so, and what is spelled so is read as that item.
use Rattle.std.proofs.Common.{◌≡◌, ℕ, true, cond, eqb, List, [], ◌∷◌, ◌++◌, length, Result, Ok, Err, refl, sym, ap, subst, ◌∙◌, append_assoc, arith, inl, inr, eqb-true, eq-eqb}
use Rattle.std.proofs.lemmas.List.{length-append, append-nil}
use Rattle.tcg_tokens.specs.Lexeme.{AreBytes, Lexeme, is_mark, same}
use Rattle.tcg_tokens.specs.declared.error.TokenError.{TokenError}
use Rattle.tcg_tokens.specs.declared.error.TokenError.TheVariants.{Unbalanced, Extra}
use Rattle.tcg_tokens.specs.declared.token.Mark.{Mark}
use Rattle.tcg_tokens.specs.declared.token.Mark.TheVariants.{StartList, EndList, StartName, EndName, Call, EndOfData, EndOfSession, StartTransaction, EndTransaction}
use Rattle.tcg_tokens.specs.Lex.{token_at, skip}
use Rattle.tcg_tokens.specs.Lexeme as lexeme
use Rattle.tcg_tokens.specs.Tree.{Trees}
use Rattle.std.specs.Prelude.{IfOk}
use Rattle.tcg_tokens.specs.declared.value.Item.{Item}
use Rattle.tcg_tokens.specs.Gives.{Gives}
use Rattle.tcg_tokens.specs.Message.{Message, message, call, reply, end_session, begin, end}
use Rattle.tcg_tokens.specs.Grammar.{IsToken, AreValues, IsStatus, three_numbers, IsItem, a_call, a_reply, an_end_session, a_begin, an_end, IsFill, nothing, one_fill, Spells, room_inside}
use Rattle.tcg_tokens.specs.Reading.{expect, number_token, number_at, uid_token, uid_at, list_with, list_at, status_at, call_at, reply_at, marked_of, message_of, message_at, is_blank, reading}
use Rattle.tcg_tokens.proofs.Tokens.{chosen, ok_inj, IsAt, token_taken, token_again, bool_cases, behind}
use Rattle.tcg_tokens.proofs.Values.{bind_then, read, read_is, expect_again, expected, values_again, values_taken, sound, step}

-- ---- what is spelled is read

number_again : (text rest : List ℕ) (n : ℕ) → IsToken text (lexeme.number n) → number_at (text ++ rest) ≡ Ok (n, rest)
unfolding number_at
number_again text rest n h = rw (token_again text (lexeme.number n) h rest) refl

uid_again : (text rest o : List ℕ) → IsToken text (lexeme.bytes o) → length o ≡ 8 → uid_at (text ++ rest) ≡ Ok (o, rest)
unfolding uid_at
uid_again text rest o h e =
    let eight : eqb (length o) 8 ≡ true = eq-eqb _ _ e in
    rw (token_again text (lexeme.bytes o) h rest, eight) refl

list_again : (text rest : List ℕ) (vs : Trees) → AreValues room_inside text vs → list_at (text ++ rest) ≡ Ok (vs, rest)
unfolding list_at list_with
list_again text rest vs h = values_again room_inside text vs h rest (length (text ++ rest)) (omega (arith, length-append text rest))

status_again : (text rest s : List ℕ) → IsStatus text s → status_at (text ++ rest) ≡ Ok (s, rest)
unfolding status_at
status_again text rest s (three_numbers {start} {a} {b} {c} {stop} {x} {y} {z} h ha hb hc last) =
    let regrouped : (start ++ (a ++ (b ++ (c ++ stop)))) ++ rest ≡ start ++ (a ++ (b ++ (c ++ (stop ++ rest)))) = simp append_assoc in
    let s1 = expect_again StartList start (a ++ (b ++ (c ++ (stop ++ rest)))) h refl in
    let s2 = number_again a (b ++ (c ++ (stop ++ rest))) x ha in
    let s3 = number_again b (c ++ (stop ++ rest)) y hb in
    let s4 = number_again c (stop ++ rest) z hc in
    let s5 = expect_again EndList stop rest last refl in
    rw (regrouped, s1, s2, s3, s4, s5) refl

item_again : (text rest : List ℕ) (i : Message) → IsItem text i → message_at (text ++ rest) ≡ Ok (i, rest)
unfolding message_at call_at reply_at
item_again text rest i (a_call {first} {object} {method} {start} {args} {data_end} {status} {o} {m} {s} {vs} h ho eo hm em hs hv hd st) =
    let regrouped : (first ++ (object ++ (method ++ (start ++ (args ++ (data_end ++ status)))))) ++ rest ≡ first ++ (object ++ (method ++ (start ++ (args ++ (data_end ++ (status ++ rest)))))) = simp append_assoc in
    let s0 = token_again first (lexeme.mark Call) h (object ++ (method ++ (start ++ (args ++ (data_end ++ (status ++ rest)))))) in
    let s1 = uid_again object (method ++ (start ++ (args ++ (data_end ++ (status ++ rest))))) o ho eo in
    let s2 = uid_again method (start ++ (args ++ (data_end ++ (status ++ rest)))) m hm em in
    let s3 = expect_again StartList start (args ++ (data_end ++ (status ++ rest))) hs refl in
    let s4 = list_again args (data_end ++ (status ++ rest)) vs hv in
    let s5 = expect_again EndOfData data_end (status ++ rest) hd refl in
    let s6 = status_again status rest s st in
    rw (regrouped, s0, s1, s2, s3, s4, s5, s6) refl
item_again text rest i (a_reply {start} {results} {data_end} {status} {s} {vs} h hv hd st) =
    let regrouped : (start ++ (results ++ (data_end ++ status))) ++ rest ≡ start ++ (results ++ (data_end ++ (status ++ rest))) = simp append_assoc in
    let s0 = token_again start (lexeme.mark StartList) h (results ++ (data_end ++ (status ++ rest))) in
    let s4 = list_again results (data_end ++ (status ++ rest)) vs hv in
    let s5 = expect_again EndOfData data_end (status ++ rest) hd refl in
    let s6 = status_again status rest s st in
    rw (regrouped, s0, s4, s5, s6) refl
item_again text rest i (an_end_session h) = rw (token_again text (lexeme.mark EndOfSession) h rest) refl
item_again text rest i (a_begin {first} {text = back} {n} h hn) =
    rw (append_assoc, token_again first (lexeme.mark StartTransaction) h (back ++ rest), number_again back rest n hn) refl
item_again text rest i (an_end {first} {text = back} {n} h hn) =
    rw (append_assoc, token_again first (lexeme.mark EndTransaction) h (back ++ rest), number_again back rest n hn) refl

fill_skipped : (fill : List ℕ) → IsFill fill → skip fill ≡ []
fill_skipped fill nothing = refl
fill_skipped fill (one_fill h) = fill_skipped _ h

pub all_again : (text : List ℕ) (i : Message) → Spells text i → reading text ≡ Ok i
unfolding reading
all_again text i s =
    let e = item_again s.0 s.1 i s.3 in
    let f = fill_skipped s.1 s.4 in
    rw (s.2, e, f) refl

-- ---- what is read is spelled

pub skipped_fill : (text : List ℕ) → is_blank text ≡ true → IsFill text
skipped_fill [] e = nothing
skipped_fill (b ∷ bs) e =
    elim (bool_cases (eqb b 0xff)) [
      | inl fill ↦ subst (λ (x : ℕ). IsFill (x ∷ bs)) (sym (eqb-true b 0xff fill)) (one_fill (skipped_fill bs (rw fill at e)))
      | inr none ↦ absurd (let h : eqb (length (b ∷ bs)) 0 ≡ true = rw none at e in omega (arith, eqb-true _ _ h))
    ]

number_read : (text rest : List ℕ) (n : ℕ) (t : Lexeme) (after : List ℕ) → IsAt text t after → number_token t after ≡ Ok (n, rest) → IsAt text (lexeme.number n) rest
number_read text rest n (lexeme.number k) after at e =
    let q = read_is k n after rest e in
    subst (λ (x : List ℕ). IsAt text (lexeme.number n) x) q.1 (subst (λ (x : ℕ). IsAt text (lexeme.number x) after) q.0 at)
number_read text rest n (lexeme.bytes b) after at e = absurd cc
number_read text rest n (lexeme.mark m) after at e = absurd cc

number_taken : (text rest : List ℕ) (n : ℕ) → AreBytes text → number_at text ≡ Ok (n, rest) → IsAt text (lexeme.number n) rest
unfolding number_at
number_taken text rest n ok e = bind_then (token_at text) _ (n, rest) e (λ t first then. number_read text rest n t.0 t.1 (token_taken text t.1 t.0 ok first) then)

uid_read : (text rest o : List ℕ) (t : Lexeme) (after : List ℕ) → IsAt text t after → uid_token t after ≡ Ok (o, rest) → IsAt text (lexeme.bytes o) rest × (length o ≡ 8)
uid_read text rest o (lexeme.number k) after at e = absurd cc
uid_read text rest o (lexeme.bytes b) after at e =
    elim (chosen (eqb (length b) 8) _ _ (Ok (o, rest)) e) [
      | inl w ↦
          let q = read_is b o after rest w.1 in
          (subst (λ (x : List ℕ). IsAt text (lexeme.bytes o) x) q.1 (subst (λ (x : List ℕ). IsAt text (lexeme.bytes x) after) q.0 at), subst (λ (x : List ℕ). length x ≡ 8) q.0 (eqb-true _ _ w.0))
      | inr w ↦ absurd (let h : Err Unbalanced ≡ read o rest = w.1 in cc)
    ]
uid_read text rest o (lexeme.mark m) after at e = absurd cc

uid_taken : (text rest o : List ℕ) → AreBytes text → uid_at text ≡ Ok (o, rest) → IsAt text (lexeme.bytes o) rest × (length o ≡ 8)
unfolding uid_at
uid_taken text rest o ok e = bind_then (token_at text) _ (o, rest) e (λ t first then. uid_read text rest o t.0 t.1 (token_taken text t.1 t.0 ok first) then)

-- the values of a list at the front of a text
abbrev AreFirst : List ℕ → Trees → List ℕ → Type 0
AreFirst text vs rest = (inner : List ℕ) × (text ≡ inner ++ rest) × AreValues room_inside inner vs

list_taken : (text rest : List ℕ) (vs : Trees) → AreBytes text → list_at text ≡ Ok (vs, rest) → AreFirst text vs rest
unfolding list_at list_with
list_taken text rest vs ok e = values_taken room_inside (sound room_inside) (length text) text rest vs ok e

five : (a b c d e rest : List ℕ) → a ++ (b ++ (c ++ (d ++ (e ++ rest)))) ≡ (a ++ (b ++ (c ++ (d ++ e)))) ++ rest
five a b c d e rest = simp append_assoc

-- a status at the front of a text
abbrev IsFirst : List ℕ → List ℕ → List ℕ → Type 0
IsFirst text s rest = (inner : List ℕ) × (text ≡ inner ++ rest) × IsStatus inner s

status_read : (text rest s start : List ℕ) (a b c : ℕ × List ℕ) (stop : List ℕ) → IsAt text (lexeme.mark StartList) start → IsAt start (lexeme.number a.0) a.1 → IsAt a.1 (lexeme.number b.0) b.1
    → IsAt b.1 (lexeme.number c.0) c.1 → IsAt c.1 (lexeme.mark EndList) stop → read (a.0 ∷ b.0 ∷ c.0 ∷ []) stop ≡ read s rest → IsFirst text s rest
status_read text rest s start a b c stop (f0, q0, t0) (f1, q1, t1) (f2, q2, t2) (f3, q3, t3) (f4, q4, t4) e =
    let q = read_is (a.0 ∷ b.0 ∷ c.0 ∷ []) s stop rest e in (
      f0 ++ (f1 ++ (f2 ++ (f3 ++ f4))),
      step text f0 start (f1 ++ (f2 ++ (f3 ++ (f4 ++ rest)))) q0 (step start f1 a.1 (f2 ++ (f3 ++ (f4 ++ rest))) q1 (step a.1 f2 b.1 (f3 ++ (f4 ++ rest)) q2 (step b.1 f3 c.1 (f4 ++ rest) q3 (step c.1 f4 stop rest q4 q.1)))) ∙ five f0 f1 f2 f3 f4 rest,
      subst (IsStatus (f0 ++ (f1 ++ (f2 ++ (f3 ++ f4))))) q.0 (three_numbers t0 t1 t2 t3 t4),
    )

status_taken : (text rest s : List ℕ) → AreBytes text → status_at text ≡ Ok (s, rest) → IsFirst text s rest
unfolding status_at
status_taken text rest s ok e =
    bind_then (expect StartList text) _ (s, rest) e (λ start start_is e0.
    bind_then (number_at start) _ (s, rest) e0 (λ a a_is e1.
    bind_then (number_at a.1) _ (s, rest) e1 (λ b b_is e2.
    bind_then (number_at b.1) _ (s, rest) e2 (λ c c_is e3.
    bind_then (expect EndList c.1) _ (s, rest) e3 (λ stop stop_is e4.
    let p0 : IsAt text (lexeme.mark StartList) start = expected StartList text start ok start_is in
    let ok0 : AreBytes start = behind text p0.0 start ok p0.1 in
    let p1 : IsAt start (lexeme.number a.0) a.1 = number_taken start a.1 a.0 ok0 a_is in
    let ok1 : AreBytes a.1 = behind start p1.0 a.1 ok0 p1.1 in
    let p2 : IsAt a.1 (lexeme.number b.0) b.1 = number_taken a.1 b.1 b.0 ok1 b_is in
    let ok2 : AreBytes b.1 = behind a.1 p2.0 b.1 ok1 p2.1 in
    let p3 : IsAt b.1 (lexeme.number c.0) c.1 = number_taken b.1 c.1 c.0 ok2 c_is in
    let ok3 : AreBytes c.1 = behind b.1 p3.0 c.1 ok2 p3.1 in
    status_read text rest s start a b c stop p0 p1 p2 p3 (expected EndList c.1 stop ok3 stop_is) e4)))))

-- an item behind its first token
abbrev Follows : Mark → List ℕ → Message → List ℕ → Type 0
Follows m text i rest = (inner : List ℕ) × (text ≡ inner ++ rest) × ((front : List ℕ) → IsToken front (lexeme.mark m) → IsItem (front ++ inner) i)

six : (a b c d e f rest : List ℕ) → a ++ (b ++ (c ++ (d ++ (e ++ (f ++ rest))))) ≡ (a ++ (b ++ (c ++ (d ++ (e ++ f))))) ++ rest
six a b c d e f rest = simp append_assoc

three : (a b c rest : List ℕ) → a ++ (b ++ (c ++ rest)) ≡ (a ++ (b ++ c)) ++ rest
three a b c rest = simp append_assoc

call_read : (text rest : List ℕ) (i : Message) (o m : List ℕ × List ℕ) (start : List ℕ) (args : Trees × List ℕ) (data_end : List ℕ) (st : List ℕ × List ℕ)
    → IsAt text (lexeme.bytes o.0) o.1 × (length o.0 ≡ 8) → IsAt o.1 (lexeme.bytes m.0) m.1 × (length m.0 ≡ 8) → IsAt m.1 (lexeme.mark StartList) start → AreFirst start args.0 args.1
    → IsAt args.1 (lexeme.mark EndOfData) data_end → IsFirst data_end st.0 st.1 → read (call o.0 m.0 args.0 st.0) st.1 ≡ read i rest → Follows Call text i rest
call_read text rest i o m start args data_end st ((f1, q1, t1), l1) ((f2, q2, t2), l2) (f3, q3, t3) (f4, q4, t4) (f5, q5, t5) (f6, q6, t6) e =
    let q = read_is (call o.0 m.0 args.0 st.0) i st.1 rest e in (
      f1 ++ (f2 ++ (f3 ++ (f4 ++ (f5 ++ f6)))),
      step text f1 o.1 (f2 ++ (f3 ++ (f4 ++ (f5 ++ (f6 ++ rest))))) q1 (step o.1 f2 m.1 (f3 ++ (f4 ++ (f5 ++ (f6 ++ rest)))) q2 (step m.1 f3 start (f4 ++ (f5 ++ (f6 ++ rest))) q3
          (step start f4 args.1 (f5 ++ (f6 ++ rest)) q4 (step args.1 f5 data_end (f6 ++ rest) q5 (step data_end f6 st.1 rest q6 q.1))))) ∙ six f1 f2 f3 f4 f5 f6 rest,
      λ front h. subst (IsItem (front ++ (f1 ++ (f2 ++ (f3 ++ (f4 ++ (f5 ++ f6))))))) q.0 (a_call h t1 l1 t2 l2 t3 t4 t5 t6),
    )

call_taken : (text rest : List ℕ) (i : Message) → AreBytes text → call_at text ≡ Ok (i, rest) → Follows Call text i rest
unfolding call_at
call_taken text rest i ok e =
    bind_then (uid_at text) _ (i, rest) e (λ o o_is e1.
    bind_then (uid_at o.1) _ (i, rest) e1 (λ m m_is e2.
    bind_then (expect StartList m.1) _ (i, rest) e2 (λ start start_is e3.
    bind_then (list_at start) _ (i, rest) e3 (λ args args_are e4.
    bind_then (expect EndOfData args.1) _ (i, rest) e4 (λ data_end data_end_is e5.
    bind_then (status_at data_end) _ (i, rest) e5 (λ st st_is e6.
    let p1 : IsAt text (lexeme.bytes o.0) o.1 × (length o.0 ≡ 8) = uid_taken text o.1 o.0 ok o_is in
    let ok1 : AreBytes o.1 = behind text p1.0.0 o.1 ok p1.0.1 in
    let p2 : IsAt o.1 (lexeme.bytes m.0) m.1 × (length m.0 ≡ 8) = uid_taken o.1 m.1 m.0 ok1 m_is in
    let ok2 : AreBytes m.1 = behind o.1 p2.0.0 m.1 ok1 p2.0.1 in
    let p3 : IsAt m.1 (lexeme.mark StartList) start = expected StartList m.1 start ok2 start_is in
    let ok3 : AreBytes start = behind m.1 p3.0 start ok2 p3.1 in
    let p4 : AreFirst start args.0 args.1 = list_taken start args.1 args.0 ok3 args_are in
    let ok4 : AreBytes args.1 = behind start p4.0 args.1 ok3 p4.1 in
    let p5 : IsAt args.1 (lexeme.mark EndOfData) data_end = expected EndOfData args.1 data_end ok4 data_end_is in
    let ok5 : AreBytes data_end = behind args.1 p5.0 data_end ok4 p5.1 in
    call_read text rest i o m start args data_end st p1 p2 p3 p4 p5 (status_taken data_end st.1 st.0 ok5 st_is) e6))))))

reply_read : (text rest : List ℕ) (i : Message) (args : Trees × List ℕ) (data_end : List ℕ) (st : List ℕ × List ℕ) → AreFirst text args.0 args.1 → IsAt args.1 (lexeme.mark EndOfData) data_end
    → IsFirst data_end st.0 st.1 → read (reply args.0 st.0) st.1 ≡ read i rest → Follows StartList text i rest
reply_read text rest i args data_end st (f4, q4, t4) (f5, q5, t5) (f6, q6, t6) e =
    let q = read_is (reply args.0 st.0) i st.1 rest e in (
      f4 ++ (f5 ++ f6),
      step text f4 args.1 (f5 ++ (f6 ++ rest)) q4 (step args.1 f5 data_end (f6 ++ rest) q5 (step data_end f6 st.1 rest q6 q.1)) ∙ three f4 f5 f6 rest,
      λ front h. subst (IsItem (front ++ (f4 ++ (f5 ++ f6)))) q.0 (a_reply h t4 t5 t6),
    )

reply_taken : (text rest : List ℕ) (i : Message) → AreBytes text → reply_at text ≡ Ok (i, rest) → Follows StartList text i rest
unfolding reply_at
reply_taken text rest i ok e =
    bind_then (list_at text) _ (i, rest) e (λ args args_are e4.
    bind_then (expect EndOfData args.1) _ (i, rest) e4 (λ data_end data_end_is e5.
    bind_then (status_at data_end) _ (i, rest) e5 (λ st st_is e6.
    let p4 : AreFirst text args.0 args.1 = list_taken text args.1 args.0 ok args_are in
    let ok4 : AreBytes args.1 = behind text p4.0 args.1 ok p4.1 in
    let p5 : IsAt args.1 (lexeme.mark EndOfData) data_end = expected EndOfData args.1 data_end ok4 data_end_is in
    let ok5 : AreBytes data_end = behind args.1 p5.0 data_end ok4 p5.1 in
    reply_read text rest i args data_end st p4 p5 (status_taken data_end st.1 st.0 ok5 st_is) e6)))

end_taken : (text rest : List ℕ) (i : Message) → read end_session text ≡ read i rest → Follows EndOfSession text i rest
end_taken text rest i e =
    let q = read_is end_session i text rest e in
    ([], q.1, λ front h. rw append-nil (subst (IsItem front) q.0 (an_end_session h)))

begin_read : (text rest : List ℕ) (i : Message) (n : ℕ × List ℕ) → IsAt text (lexeme.number n.0) n.1 → read (begin n.0) n.1 ≡ read i rest → Follows StartTransaction text i rest
begin_read text rest i n (front, whole, is_number) e =
    let q = read_is (begin n.0) i n.1 rest e in
    (front, step text front n.1 rest whole q.1, λ first h. subst (IsItem (first ++ front)) q.0 (a_begin h is_number))

end_read : (text rest : List ℕ) (i : Message) (n : ℕ × List ℕ) → IsAt text (lexeme.number n.0) n.1 → read (end n.0) n.1 ≡ read i rest → Follows EndTransaction text i rest
end_read text rest i n (front, whole, is_number) e =
    let q = read_is (end n.0) i n.1 rest e in
    (front, step text front n.1 rest whole q.1, λ first h. subst (IsItem (first ++ front)) q.0 (an_end h is_number))

marked_taken : (m : Mark) (text rest : List ℕ) (i : Message) → AreBytes text → marked_of m text ≡ Ok (i, rest) → Follows m text i rest
marked_taken Call text rest i ok e = call_taken text rest i ok e
marked_taken StartList text rest i ok e = reply_taken text rest i ok e
marked_taken EndOfSession text rest i ok e = end_taken text rest i e
marked_taken StartTransaction text rest i ok e = bind_then (number_at text) _ (i, rest) e (λ n n_is then. begin_read text rest i n (number_taken text n.1 n.0 ok n_is) then)
marked_taken EndTransaction text rest i ok e = bind_then (number_at text) _ (i, rest) e (λ n n_is then. end_read text rest i n (number_taken text n.1 n.0 ok n_is) then)
marked_taken EndList text rest i ok e = absurd cc
marked_taken StartName text rest i ok e = absurd cc
marked_taken EndName text rest i ok e = absurd cc
marked_taken EndOfData text rest i ok e = absurd cc

-- an item at the front of a text
abbrev ItemFirst : List ℕ → Message → List ℕ → Type 0
ItemFirst text i rest = (inner : List ℕ) × (text ≡ inner ++ rest) × IsItem inner i

item_joined : (text after rest : List ℕ) (i : Message) (m : Mark) → IsAt text (lexeme.mark m) after → Follows m after i rest → ItemFirst text i rest
item_joined text after rest i m (front, whole, is_mark) (inner, then, goes_on) =
    (front ++ inner, whole ∙ ap (λ (x : List ℕ). front ++ x) then ∙ sym (append_assoc front inner rest), goes_on front is_mark)

item_read : (text rest : List ℕ) (i : Message) (t : Lexeme) (after : List ℕ) → AreBytes text → IsAt text t after → message_of t after ≡ Ok (i, rest) → ItemFirst text i rest
item_read text rest i (lexeme.number n) after ok at e = absurd cc
item_read text rest i (lexeme.bytes b) after ok at e = absurd cc
item_read text rest i (lexeme.mark m) after ok at e = item_joined text after rest i m at (marked_taken m after rest i (behind text at.0 after ok at.1) e)

item_taken : (text rest : List ℕ) (i : Message) → AreBytes text → message_at text ≡ Ok (i, rest) → ItemFirst text i rest
unfolding message_at
item_taken text rest i ok e = bind_then (token_at text) _ (i, rest) e (λ t first then. item_read text rest i t.0 t.1 ok (token_taken text t.1 t.0 ok first) then)

all_read : (text : List ℕ) (i : Message) (m : Message × List ℕ) → ItemFirst text m.0 m.1 → cond (is_blank m.1) (Ok m.0) (Err Extra) ≡ Ok i → Spells text i
all_read text i m at e =
    elim (chosen (is_blank m.1) (Ok m.0) (Err Extra) (Ok i) e) [
      | inl w ↦ (at.0, m.1, at.1, subst (IsItem at.0) (ok_inj m.0 i w.1) at.2, skipped_fill m.1 w.0)
      | inr w ↦ absurd cc
    ]

pub all_taken : (text : List ℕ) (i : Message) → AreBytes text → reading text ≡ Ok i → Spells text i
unfolding reading
all_taken text i ok e = bind_then (message_at text) _ i e (λ m m_is then. all_read text i m (item_taken text m.1 m.0 ok m_is) then)

-- what a function gives that gives the reading
pub found : (text : List ℕ) (r : Result Item TokenError) → AreBytes text → Gives message r (reading text) → IfOk r (λ i. Spells text (message i))
found text (Ok i) ok e = all_taken text (message i) ok e
found text (Err e) ok h = tt
