-- The encoding of an output begins with its head.
use Rattle.std.proofs.Common.{◌≡◌, refl, sym, ap, ap₂, ◌∙◌, arith}
use Rattle.std.specs.Prelude.{ℕ, ◌<◌, ◌≤◌, ◌+◌, ◌-◌, ◌/◌, ◌%◌, ◌^◌, nat_lt, Bool, true, false, List, [], ◌++◌, length, take, drop, if◌then◌else◌}
use Rattle.std.proofs.lemmas.Bool.{lt-ltb, le-ltb}
use Rattle.std.proofs.lemmas.List.{length-append, length-drop, take_rest}
use Rattle.byteorder.specs.Endian.{big_number}
use Rattle.fop_types.specs.declared.messages.BrickRep.{BrickRep}
use Rattle.fop_types.specs.declared.messages.BrickRep.TheVariants as rep
use Rattle.fop_types.specs.declared.messages.OutKind.{OutKind}
use Rattle.fop_types.specs.declared.messages.OutKind.TheVariants as out
use Rattle.fop_types.specs.declared.messages.Output.{Output}
use Rattle.wire_xdr.specs.MessageText.{rep_number, rep_arm, rep_text}
use Rattle.wire_xdr.specs.WireText.{out_number, out_arm, out_text, IsOutKind, output_text, IsOutput}
use Rattle.wire_xdr.specs.Xdr.{unit, hyper}
use Rattle.wire_xdr.proofs.QuadLaws.{unit_size, unit_number}
use Rattle.wire_messages.specs.Messages.{output_in, MessagesReadBack}
use Rattle.wire_messages.specs.declared.messages.Message.TheVariants.{Whole}
use Rattle.mount_log.specs.Outputs.{IsEncodedOutput}
use Rattle.mount_log.specs.FirstUnits.{first_unit, unit_at, joined, reply_by, said_by, first_reply, first_head}
use Rattle.mount_log.specs.Heads.{reply_head, kind_head, head_in}
use Rattle.mount_log.specs.declared.heads.Head.{Head}
use Rattle.mount_log.specs.declared.heads.Said.{Said}

-- ---- one unit

pub unit_missing : (bytes : List ℕ) (place : ℕ) → length bytes - place < 4 → 0 ≡ unit_at bytes place
unfolding unit_at
unit_missing bytes place few =
    let short : nat_lt (length (drop place bytes)) 4 ≡ true = lt-ltb (length (drop place bytes)) 4 (omega (arith, length-drop place bytes, few)) in
    sym (ap (λ (b : Bool). if b then 0 else big_number 4 (drop place bytes)) short)

pub unit_there : (bytes : List ℕ) (place : ℕ) → 4 ≤ length bytes - place → big_number 4 (take (length bytes - place) (drop place bytes)) ≡ unit_at bytes place
unfolding unit_at
unit_there bytes place enough =
    let long : nat_lt (length (drop place bytes)) 4 ≡ false = le-ltb (length (drop place bytes)) 4 (omega (arith, length-drop place bytes, enough)) in
    ap (big_number 4) (take_rest bytes place) ∙ sym (ap (λ (b : Bool). if b then 0 else big_number 4 (drop place bytes)) long)

number_is : (n : ℕ) (rest : List ℕ) → big_number 4 (unit n ++ rest) ≡ big_number 4 (unit n)
unfolding unit
number_is n rest = refl

first_is : (n : ℕ) (rest : List ℕ) → n < 2 ^ 32 → first_unit (unit n ++ rest) ≡ n
first_is n rest small =
    let long : nat_lt (length (unit n ++ rest)) 4 ≡ false = le-ltb (length (unit n ++ rest)) 4 (omega (arith, length-append (unit n) rest, unit_size n)) in
    ap (λ (b : Bool). if b then 0 else big_number 4 (unit n ++ rest)) long ∙ number_is n rest ∙ unit_number n small

-- ---- the units of an output

module _ (a b k : ℕ) (arm : List ℕ) where
  abbrev begun : List ℕ
  begun = (unit a ++ unit b) ++ (unit k ++ arm)

  high_is : a < 2 ^ 32 → unit_at begun 0 ≡ a
  unfolding unit unit_at
  high_is small = first_is a (unit b ++ (unit k ++ arm)) small

  low_is : b < 2 ^ 32 → unit_at begun 4 ≡ b
  unfolding unit unit_at
  low_is small = first_is b (unit k ++ arm) small

  kind_is : k < 2 ^ 32 → unit_at begun 8 ≡ k
  unfolding unit unit_at
  kind_is small = first_is k arm small

module _ (a b k c d s : ℕ) (arm : List ℕ) where
  abbrev reply : List ℕ
  reply = (unit a ++ unit b) ++ (unit k ++ ((unit c ++ unit d) ++ (unit s ++ arm)))

  wind_high_is : c < 2 ^ 32 → unit_at reply 12 ≡ c
  unfolding unit unit_at
  wind_high_is small = first_is c (unit d ++ (unit s ++ arm)) small

  wind_low_is : d < 2 ^ 32 → unit_at reply 16 ≡ d
  unfolding unit unit_at
  wind_low_is small = first_is d (unit s ++ arm) small

  status_is : s < 2 ^ 32 → unit_at reply 20 ≡ s
  unfolding unit unit_at
  status_is small = first_is s arm small

high_small : (n : ℕ) → n < 2 ^ 64 → n / 4294967296 < 2 ^ 32
high_small n small = omega (arith, small)

low_small : (n : ℕ) → n % 4294967296 < 2 ^ 32
low_small n = omega arith

halves : (n : ℕ) → joined (n / 4294967296) (n % 4294967296) ≡ n
halves n = omega arith

hyper_is : (n a b : ℕ) → a ≡ n / 4294967296 → b ≡ n % 4294967296 → joined a b ≡ n
hyper_is n a b high low = ap₂ joined high low ∙ halves n

-- ---- what an output says

status_small : (r : BrickRep) → rep_number r < 2 ^ 32
status_small (rep.Done arm) = omega arith
status_small rep.Gone = omega arith
status_small rep.Fault = omega arith
status_small rep.Unfit = omega arith
status_small rep.BadFd = omega arith

reply_is : (wind : ℕ) (r : BrickRep) → reply_by wind (rep_number r) ≡ reply_head wind r
reply_is wind (rep.Done arm) = refl
reply_is wind rep.Gone = refl
reply_is wind rep.Fault = refl
reply_is wind rep.Unfit = refl
reply_is wind rep.BadFd = refl

said_is : (taken : ℕ) (kind : OutKind) → IsOutKind true kind → said_by (unit_at (hyper taken ++ out_text kind) 8) (first_reply (hyper taken ++ out_text kind)) ≡ kind_head kind
said_is taken (out.Reply wind r) legal =
    let a = taken / 4294967296 in let b = taken % 4294967296 in let c = wind / 4294967296 in let d = wind % 4294967296 in
    let high = wind_high_is a b 0 c d (rep_number r) (rep_arm r) (high_small wind legal.0) in
    let low = wind_low_is a b 0 c d (rep_number r) (rep_arm r) (low_small wind) in
    let status = status_is a b 0 c d (rep_number r) (rep_arm r) (status_small r) in
    ap₂ said_by (kind_is a b 0 (hyper wind ++ rep_text r) (omega arith)) (ap₂ reply_by (hyper_is wind _ _ high low) status ∙ reply_is wind r)
said_is taken out.Closed legal = ap (λ (k : ℕ). said_by k (first_reply (hyper taken ++ out_text out.Closed))) (kind_is (taken / 4294967296) (taken % 4294967296) 1 [] (omega arith))
said_is taken out.Opened legal = ap (λ (k : ℕ). said_by k (first_reply (hyper taken ++ out_text out.Opened))) (kind_is (taken / 4294967296) (taken % 4294967296) 2 [] (omega arith))
said_is taken (out.Connected graph version) legal =
    ap (λ (k : ℕ). said_by k (first_reply (hyper taken ++ out_text (out.Connected graph version)))) (kind_is (taken / 4294967296) (taken % 4294967296) 3 (unit graph ++ unit version) (omega arith))
said_is taken (out.Malformed place) legal =
    ap (λ (k : ℕ). said_by k (first_reply (hyper taken ++ out_text (out.Malformed place)))) (kind_is (taken / 4294967296) (taken % 4294967296) 4 (unit place) (omega arith))

abbrev head_by : ℕ → Said → Head
head_by n s = record { taken = n; said = s }

head_is : (x : Output) → IsOutput x → first_head (output_text x) ≡ head_in (Whole x)
head_is x legal =
    let a = x.taken / 4294967296 in let b = x.taken % 4294967296 in
    let high = high_is a b (out_number x.kind) (out_arm x.kind) (high_small x.taken legal.0) in
    let low = low_is a b (out_number x.kind) (out_arm x.kind) (low_small x.taken) in
    ap₂ head_by (hyper_is x.taken _ _ high low) (said_is x.taken x.kind legal.1)

pub head_read : MessagesReadBack → (bytes : List ℕ) → IsEncodedOutput bytes → first_head bytes ≡ head_in (output_in bytes)
head_read back bytes arrived =
    ap first_head arrived.encoded ∙ head_is arrived.output arrived.legal
    ∙ ap head_in (sym (back.1.0 arrived.output arrived.legal)) ∙ ap (λ (l : List ℕ). head_in (output_in l)) (sym arrived.encoded)
