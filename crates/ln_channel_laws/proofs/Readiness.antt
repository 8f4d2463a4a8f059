-- The readiness of an end: channel_ready and shutdown, sent, in flight and taken.
pub mod ReadinessInFlight
pub mod ReadinessOverActs
pub mod ReadinessOverBreaks
pub mod ShutdownAnswered
