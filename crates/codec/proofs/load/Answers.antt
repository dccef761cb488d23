-- The left values go down, the middle joins, the records are put on top: the slopes' lengths are what the code reads.
use Rattle.std.proofs.Common.{◌≡◌, ◌∙◌, ℕ, ◌+◌, ◌-◌, ◌*◌, ◌<◌, ◌^◌, arith, rules, w64, to_z, of_z}
use Rattle.std.proofs.Math.Path.{ap, ap₂}
use Rattle.std.specs.Int.Signed.{mag}
use Rattle.number.specs.Bytes.{i64_at}
use Rattle.number.specs.Word.{back}
use Rattle.summary.specs.Judge.{rise_at, fall_at, middle_at}
use Rattle.slopes.specs.Laws.{adds}
use Rattle.codec.specs.LoadLaws.{load-sinks, middle-joins, stack-room, loaded}
use Rattle.codec.proofs.load.Goals as goal

pub sink_all-sunk-requires : goal.sink_all-sunk-requires
sink_all-sunk-requires c =
    let peak = c.read_u16-peak.ensures in
    load-sinks c.requires (ap₂ ◌-◌ c.read_u16.ensures peak) (ap₂ ◌-◌ c.read_u16-2.ensures peak)

pub add-mid-requires : goal.add-mid-requires
add-mid-requires c =
    let b = c.args.b.now in
    let m : mag c.sink_all-sunk.result.mid < 2 ^ 63 = search rules in
    let peak = c.read_u16-peak.ensures in
    let rise : c.read_u16.result - c.read_u16-peak.result ≡ rise_at b = ap₂ ◌-◌ c.read_u16.ensures peak in
    let fall : c.read_u16-2.result - c.read_u16-peak.result ≡ fall_at b = ap₂ ◌-◌ c.read_u16-2.ensures peak in
    let x : to_z w64 (of_z w64 c.read_i64-x.result) ≡ middle_at b = back w64 c.read_i64-x.result c.read_i64-x.type_inv ∙ c.read_i64-x.ensures ∙ ap (λ (r : ℕ). i64_at b (16 + 8 * r)) rise in
    rw (back w64 c.sink_all-sunk.result.mid m) (adds (middle-joins c.requires rise fall c.sink_all-sunk.ensures x))

pub push_all-requires : goal.push_all-requires
push_all-requires c =
    let b = c.args.b.now in
    let peak = c.read_u16-peak.ensures in
    let rise : c.read_u16.result - c.read_u16-peak.result ≡ rise_at b = ap₂ ◌-◌ c.read_u16.ensures peak in
    let fall : c.read_u16-2.result - c.read_u16-peak.result ≡ fall_at b = ap₂ ◌-◌ c.read_u16-2.ensures peak in
    (ap (λ (k : ℕ). 24 + 8 * k) rise, omega (arith, c.requires.hill.layout.length-fits, rise, fall), stack-room c.requires rise fall c.sink_all-sunk.ensures)

pub returns : goal.returns
returns c =
    let b = c.args.b.now in
    let m : mag c.sink_all-sunk.result.mid < 2 ^ 63 = search rules in
    let peak = c.read_u16-peak.ensures in
    let rise : c.read_u16.result - c.read_u16-peak.result ≡ rise_at b = ap₂ ◌-◌ c.read_u16.ensures peak in
    let fall : c.read_u16-2.result - c.read_u16-peak.result ≡ fall_at b = ap₂ ◌-◌ c.read_u16-2.ensures peak in
    let x : to_z w64 (of_z w64 c.read_i64-x.result) ≡ middle_at b = back w64 c.read_i64-x.result c.read_i64-x.type_inv ∙ c.read_i64-x.ensures ∙ ap (λ (r : ℕ). i64_at b (16 + 8 * r)) rise in
    let d = c.add-mid in
    loaded c.requires rise fall c.sink_all-sunk.ensures (rw (back w64 d.result d.type_inv) (rw (back w64 c.sink_all-sunk.result.mid m, x) at d.ensures)) c.push_all.ensures
